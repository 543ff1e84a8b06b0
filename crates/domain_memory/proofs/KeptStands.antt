-- As long as what was kept stays, a domain stands for the filesets that it had.
use Rattle.std.proofs.Common.{◌≡◌, ◌∙◌, ◌↔◌, ℕ, true, false, Option, Some, None, IsSomeAnd, slice_get, refl, sym, ap, subst}
use Rattle.std.specs.FinMap.{get}
use Rattle.std.specs.FinSet.{contains}
use Rattle.std.specs.Option.{option_map}
use Rattle.standing_laws.specs.free_space.Spaces.{kept_spaces, volume_of}
use Rattle.standing_laws.specs.free_space.VolumeSpace.{VolumeSpace, as_kept, is_waiting, keeping}
use Rattle.standing_laws.specs.free_cells.Cells.{taken_back}
use Rattle.standing_laws.proofs.OfFreeCells.Kept.{back_same}
use Rattle.standing_laws.specs.fileset_model.Filesets.{FilesetMap}
use Rattle.standing_laws.specs.fileset_table.Table.{Table}
use Rattle.standing_laws.specs.page_ways.Frame.{frame_in}
use Rattle.standing_laws.specs.quota_book.Book.{Book}
use Rattle.standing_laws.specs.quota_book.Sums.{IsBookOf}
use Rattle.standing_laws.specs.free_cells.Marks.{is_marked}
use Rattle.standing_laws.proofs.OfFreeCells.MarkVolumes.{volume_changed}
use Rattle.standing_laws.specs.domain_layout.Read.{contents_of}
use Rattle.standing_laws.specs.domain_standing.Domain.{DomainNow}
use Rattle.standing_laws.specs.domain_standing.Sources.{StandAlone}
use Rattle.standing_laws.specs.domain_standing.Standing.{AreBooksOf, HaveParents, IsMarkedBut, StandsDomain}
use Rattle.standing_laws.proofs.OfDomainStanding.SourcesStay.{sources_stay}
use Rattle.standing_laws.proofs.MemoryKept.{all_kept_stands, below_kept}
use Rattle.standing_laws.specs.Sound.{IsSound}
use Rattle.standing_laws.proofs.SoundInPlace.{sound_memory}
use Rattle.domain_memory.specs.Memory.{StandsFor, books_in, kept_in}
use Rattle.domain_memory.specs.declared.memory.DomainMemory.{DomainMemory}
use Rattle.domain_memory.specs.Kept.{KeepsKept}

kept_again : (o : Option VolumeSpace) → option_map keeping (option_map as_kept o) ≡ option_map as_kept o
kept_again None = refl
kept_again (Some v) = refl

module _ (old new : DomainMemory) (kept : KeepsKept old new) where
  abbrev d : DomainNow
  d = kept_in old

  abbrev target : DomainNow
  target = record d { space = kept_spaces new.space; cells = taken_back new.cells }

  is_target : kept_in new ≡ target
  is_target = λ i. record {
    frame = frame_in (kept.frame i);
    table = kept.table i;
    tags = λ number. kept.places number i;
    pages = kept.pages i;
    contents = contents_of (kept.pages i);
    space = kept_spaces new.space;
    cells = taken_back new.cells;
    list = kept.list i;
  }

  space_is : (vol : ℕ) → volume_of (kept_spaces new.space) vol ≡ option_map keeping (volume_of (kept_spaces old.space) vol)
  space_is vol = kept.spaces vol ∙ volume_changed as_kept old.space vol ∙ sym (kept_again (volume_of old.space vol)) ∙ sym (ap (option_map keeping) (volume_changed as_kept old.space vol))

  target_stands : (all : FilesetMap) → StandsDomain d all → StandsDomain target all
  target_stands all is =
      let same = back_same old.cells new.cells kept.cells kept.marks in
      all_kept_stands d (kept_spaces new.space) (taken_back new.cells) space_is same.tables same.marks same.cells all is

  target_marked : IsMarkedBut d → IsMarkedBut target
  target_marked is = record {
    there = is.there;
    bits = λ vol page member within.
        subst (λ (o : Option VolumeSpace). (is_marked d.pages vol page ≡ true) ↔ IsSomeAnd o (λ v. (contains v.used page ≡ true) × (is_waiting v page ≡ false))) (sym (kept.spaces vol)) (is.bits vol page member within);
    behind = is.behind;
  }

  target_sound : IsSound d → IsSound target
  target_sound is =
      let same = back_same old.cells new.cells kept.cells kept.marks in
      record {
        files = is.files;
        indexes = is.indexes;
        below = below_kept d (kept_spaces new.space) (taken_back new.cells) space_is same.tables same.marks same.cells is.files is.indexes is.below;
        sound = sound_memory d is.files is.indexes (kept_spaces new.space) (taken_back new.cells) is.sound (record { tables = same.tables; marks = same.marks; cells = same.cells; keeps = λ vol. refl });
      }

  books_are : (all : FilesetMap) → AreBooksOf (books_in old) d all → AreBooksOf (books_in new) target all
  books_are all are number entry there = subst (λ (b : Book). IsSomeAnd (get all entry.name) (λ fileset. IsBookOf b fileset.tree)) (sym (kept.books number entry there)) (are number entry there)

  pub stands_so : (all : FilesetMap) → StandsFor old all → StandsFor new all
  stands_so all is = record {
    stands = subst (λ (t : DomainNow). StandsDomain t all) (sym is_target) (target_stands all is.stands);
    alone = subst StandAlone (sym is_target)
        (sources_stay d target refl (λ vol member. (back_same old.cells new.cells kept.cells kept.marks).tables vol) (λ home member on. refl) is.alone);
    sound = subst IsSound (sym is_target) (target_sound is.sound);
    parents = subst HaveParents (sym is_target) is.parents;
    marked = subst IsMarkedBut (sym is_target) (target_marked is.marked);
    books = subst (λ (t : DomainNow). AreBooksOf (books_in new) t all) (sym is_target) (books_are all is.books);
  }

pub kept_joined : (first between last : DomainMemory) → KeepsKept first between → KeepsKept between last → KeepsKept first last
kept_joined first between last a b = record {
  frame = b.frame ∙ a.frame;
  table = b.table ∙ a.table;
  places = λ number. b.places number ∙ a.places number;
  books = λ number entry there. b.books number entry (ap (λ (t : Table). slice_get t.slots number) a.table ∙ there) ∙ a.books number entry there;
  pages = b.pages ∙ a.pages;
  spaces = λ vol. b.spaces vol ∙ a.spaces vol;
  cells = λ vol. b.cells vol ∙ a.cells vol;
  marks = λ vol. b.marks vol ∙ a.marks vol;
  list = b.list ∙ a.list;
}

pub none_kept : (memory : DomainMemory) → KeepsKept memory memory
none_kept memory = record {
  frame = refl;
  table = refl;
  places = λ number. refl;
  books = λ number entry there. refl;
  pages = refl;
  spaces = λ vol. refl;
  cells = λ vol. refl;
  marks = λ vol. refl;
  list = refl;
}

-- memory stands for what it stood for if it is as it was kept
pub stands_still : (old new : DomainMemory) (all : FilesetMap) → kept_in new ≡ kept_in old → books_in new ≡ books_in old → StandsFor old all → StandsFor new all
stands_still old new all kept books stands = record {
  stands = subst (λ (d : DomainNow). StandsDomain d all) (sym kept) stands.stands;
  alone = subst StandAlone (sym kept) stands.alone;
  sound = subst IsSound (sym kept) stands.sound;
  parents = subst HaveParents (sym kept) stands.parents;
  marked = subst IsMarkedBut (sym kept) stands.marked;
  books = subst (λ (b : ℕ → Book). AreBooksOf b (kept_in new) all) (sym books) (subst (λ (d : DomainNow). AreBooksOf (books_in old) d all) (sym kept) stands.books);
}
