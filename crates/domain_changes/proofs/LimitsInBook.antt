-- A fileset's book with an owner's limits, set once the pages have them.
use Rattle.std.proofs.Common.{◌≡◌, ◌∙◌, ◌<◌, ℕ, IsSome, length, sym, ap, subst}
use Rattle.std.specs.FinMap.{insert}
use Rattle.domain_memory.specs.fileset_model.Filesets.{FilesetMap}
use Rattle.domain_memory.specs.fileset_model.Usage.{with_limits}
use Rattle.domain_memory.specs.fileset_values.declared.command.Owner.{Owner}
use Rattle.domain_memory.specs.fileset_model.declared.fileset.FilesetSlot.{FilesetSlot}
use Rattle.domain_memory.specs.fileset_model.declared.fileset.Limits.{Limits}
use Rattle.domain_memory.specs.fileset_table.declared.slot.FilesetEntry.{FilesetEntry}
use Rattle.domain_memory.specs.quota_book.Book.{Book}
use Rattle.domain_memory.specs.domain_standing.Domain.{DomainNow}
use Rattle.domain_memory.specs.domain_standing.Standing.{AreBooksOf, HaveParents}
use Rattle.domain_memory.specs.standing_laws.SetsQuota.{fileset_limited}
use Rattle.domain_memory.specs.Slots.{book_in, slot_in}
use Rattle.domain_memory.specs.Staged.{IsStaged, staged_books, staged_in}
use Rattle.domain_memory.specs.declared.memory.DomainMemory.{DomainMemory}
use Rattle.domain_changes.specs.Charging.{ChangesInBook, ChangesOneBook}
use Rattle.domain_changes.specs.Limits.{SetsLimitsIn}
use Rattle.domain_changes.proofs.BookChanged.{one_book, staged_same, still_staged}
use Rattle.domain_changes.proofs.Limited.{IsLimited}

module _ (number : ℕ) (who : Owner) (limits : Limits) (new last : DomainMemory) (within : number < length new.slots.items) (b : ChangesInBook number (SetsLimitsIn who limits) new last) (old : DomainMemory) (slots : new.slots ≡ old.slots) (entry : FilesetEntry) (all : FilesetMap)
    (fileset : FilesetSlot) (some : IsSome (slot_in new.slots.items number)) (limited : IsLimited number who limits entry all fileset old new)
  where
    abbrev all_now : FilesetMap
    all_now = insert all entry.name (fileset_limited who limits fileset)

    same_domain : staged_in last ≡ staged_in new
    same_domain = staged_same number (SetsLimitsIn who limits) new last within b

    one : ChangesOneBook number (SetsLimitsIn who limits) new last
    one = one_book number (SetsLimitsIn who limits) new last within b some

    pub last_limited : IsStaged last all_now
    last_limited = still_staged number (SetsLimitsIn who limits) new last within b all_now limited.staged

    pub last_parents_so : HaveParents (staged_in old) → HaveParents (staged_in last)
    last_parents_so parents = subst HaveParents (sym same_domain) (limited.parents parents)

    books_old : (n : ℕ) → staged_books new n ≡ staged_books old n
    books_old n = ap (λ s. book_in (slot_in s.items n)) slots

    book_is : staged_books last number ≡ record (staged_books old number) { limits = with_limits (staged_books old number).limits who limits }
    book_is = one.book ∙ ap (λ (k : Book). record k { limits = with_limits k.limits who limits }) (books_old number)

    pub last_books_so : AreBooksOf (staged_books old) (staged_in old) all → AreBooksOf (staged_books last) (staged_in last) all_now
    last_books_so are = subst (λ (d : DomainNow). AreBooksOf (staged_books last) d all_now) (sym same_domain)
        (limited.books (staged_books last) (λ n differ. one.others n differ ∙ books_old n) book_is are)
