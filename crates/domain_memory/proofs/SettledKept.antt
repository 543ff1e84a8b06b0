-- Memory over which no change is laid may be kept as it is.
use Rattle.std.proofs.Common.{◌≡◌, ℕ, length, sym, ap, subst, arith}
use Rattle.standing_laws.specs.fileset_model.Filesets.{FilesetMap}
use Rattle.standing_laws.specs.page_ways.Frame.{frame_in}
use Rattle.standing_laws.specs.quota_book.Book.{Book}
use Rattle.standing_laws.specs.domain_layout.Read.{contents_of}
use Rattle.standing_laws.specs.domain_standing.Domain.{DomainNow}
use Rattle.standing_laws.specs.domain_standing.Sources.{StandAlone}
use Rattle.standing_laws.specs.domain_standing.Standing.{AreBooksOf, HaveParents, IsMarkedBut, StandsDomain}
use Rattle.standing_laws.specs.Sound.{IsSound}
use Rattle.domain_memory.specs.Listing.{list_with}
use Rattle.domain_memory.specs.Memory.{StandsFor, books_in, kept_in, with_was}
use Rattle.domain_memory.specs.Staged.{IsSettled, MayBeKept, staged_books, staged_in}
use Rattle.domain_memory.specs.declared.memory.DomainMemory.{DomainMemory}

module _ (memory : DomainMemory) (settled : IsSettled memory) where
  is_kept : kept_in memory ≡ staged_in memory
  is_kept = λ i. record {
    frame = frame_in memory.frame;
    table = ap (λ w. with_was w memory.table) settled.was i;
    tags = λ number. sym (settled.places number) i;
    pages = sym settled.pages i;
    contents = contents_of (sym settled.pages i);
    space = settled.space i;
    cells = settled.cells i;
    list = sym (ap (λ l. list_with l memory.list.list) settled.listed) i;
  }

  are_books : books_in memory ≡ staged_books memory
  are_books = λ i number. sym (settled.books number) i

pub settled_kept : (memory : DomainMemory) (all : FilesetMap) → IsSettled memory → StandsFor memory all → MayBeKept memory all
settled_kept memory all settled stands = record {
  staged = record {
    stands = subst (λ (d : DomainNow). StandsDomain d all) (is_kept memory settled) stands.stands;
    alone = subst StandAlone (is_kept memory settled) stands.alone;
    sound = subst IsSound (is_kept memory settled) stands.sound;
    marked = subst (λ s. IsMarkedBut (record (staged_in memory) { space = s })) (sym settled.space) (subst IsMarkedBut (is_kept memory settled) stands.marked);
    once = stands.stands.chains.well.listed.once;
    room = omega (arith, ap length settled.listed);
  };
  parents = subst HaveParents (is_kept memory settled) stands.parents;
  books = subst (λ (b : ℕ → Book). AreBooksOf b (staged_in memory) all) (are_books memory settled) (subst (λ (d : DomainNow). AreBooksOf (books_in memory) d all) (is_kept memory settled) stands.books);
}
