-- What is left of what is removed from a slot of memory once no tag of it is used: the pages of its
-- directory, each once, which are held.
use Rattle.std.proofs.Common.{◌≡◌, ◌∙◌, ◌<◌, ◌≤◌, ℕ, zero, suc, true, List, [], ◌∷◌, Option, Some, None, IfSome, IsSome, IsSomeAnd, Contains, length, slice_get, refl, sym, subst, arith, ⊎_elim}
use Rattle.std.proofs.Math.Logic.{∥∥₁_map}
use Rattle.std.specs.Option.{option_and_then}
use Rattle.domain_changes.specs.domain_base.declared.place.CellAt.{CellAt}
use Rattle.domain_changes.specs.domain_base.declared.place.Home.{Home}
use Rattle.domain_changes.specs.domain_base.declared.place.Tag.{Tag}
use Rattle.domain_changes.specs.page_store.Pages.{Pages}
use Rattle.domain_changes.specs.tag_dirs.TagPage.{index_of}
use Rattle.domain_changes.specs.tag_dirs.Directory.{IsDirectory, IsPageOf, cell_of, has_home, home_behind}
use Rattle.domain_changes.specs.tag_dirs.declared.dir.TagPlace.{TagPlace}
use Rattle.domain_changes.specs.fileset_table.declared.slot.SlotItem.{SlotItem}
use Rattle.domain_changes.specs.fileset_table.declared.slot.SlotItem.TheVariants as slot
use Rattle.domain_changes.specs.file_release.Releases.{AreAllOnce}
use Rattle.domain_changes.specs.index_pages.Changes.{AreHeld}
use Rattle.domain_changes.proofs.OfStoredSet.Stable.{IsStable, both, less, not, unit}
use Rattle.domain_changes.proofs.OfReleaseList.Spread.{none_not}
use Rattle.domain_changes.specs.release_steps.Links.{homes_of}
use Rattle.domain_changes.specs.domain_layout.Layout.{AreTagPlaces, first_tag_of}
use Rattle.domain_changes.specs.domain_layout.TagRules.{quota_of}
use Rattle.domain_changes.specs.fileset_model.Filesets.{FilesetMap}
use Rattle.domain_changes.specs.domain_standing.Chains.{HasFilesAmong, IsRemoved, StandsInSlot}
use Rattle.domain_changes.specs.domain_standing.Domain.{DomainNow, named_by}
use Rattle.domain_changes.proofs.OfStandingLaws.IndexWell.{listed_has}
use Rattle.domain_changes.proofs.OfStandingLaws.SlotTogether.{slot_together}
use Rattle.domain_changes.specs.domain_memory.Slots.{places_in, slot_in}
use Rattle.domain_changes.specs.domain_memory.Staged.{IsStaged, IsStagedForSome, MayGoBack, staged_in}
use Rattle.domain_changes.specs.domain_memory.declared.memory.DomainMemory.{DomainMemory}
use Rattle.domain_changes.specs.domain_memory.Going.{HasNoQuota, IsUsedIn}
use Rattle.release_changes.specs.Emptying.{IsLeftOver}
use Rattle.release_changes.proofs.SlotFree.{has_listed}
use Rattle.release_changes.proofs.TagAsks.{held_known}

-- ---- no page of a directory stands twice

record AreIndexed (pages : Pages) (places : List TagPlace) : Type 0 where
  indexed : (k : ℕ) → IfSome (slice_get places k) (λ place. IsSomeAnd (pages place.home) (λ page. index_of page ≡ place.index))
  apart : (j k : ℕ) (p q : TagPlace) → slice_get places j ≡ Some p → slice_get places k ≡ Some q → p.index ≡ q.index → j ≡ k

directory_indexed : (pages : Pages) (places : List TagPlace) → IsDirectory pages places → AreIndexed pages places
directory_indexed pages places directory = record { indexed = λ k. by_place k (slice_get places k) (directory.run k); apart = directory.apart }
  where
    by_page : (k : ℕ) (place : TagPlace) (o : Option (List ℕ)) → IsSomeAnd o (IsPageOf place (home_behind places k)) → IsSomeAnd o (λ page. index_of page ≡ place.index)
    by_page k place None is = is
    by_page k place (Some page) is = is.indexed

    by_place : (k : ℕ) (o : Option TagPlace) → IfSome o (λ place. IsSomeAnd (pages place.home) (IsPageOf place (home_behind places k))) → IfSome o (λ place. IsSomeAnd (pages place.home) (λ page. index_of page ≡ place.index))
    by_place k None is = tt
    by_place k (Some place) is = by_page k place (pages place.home) is

record IsAt (places : List TagPlace) (home : Home) : Type 0 where
  k : ℕ
  place : TagPlace
  there : slice_get places k ≡ Some place
  is : place.home ≡ home

at_place : (places : List TagPlace) (home : Home) → Contains (homes_of places) home → IsAt places home
at_place [] home inside = absurd (omega (arith, inside.1))
at_place (p ∷ places) home (zero, within, is) = record { k = 0; place = p; there = refl; is = is }
at_place (p ∷ places) home (suc k, within, is) = let later = at_place places home (k, omega (arith, within), is) in record { k = suc later.k; place = later.place; there = later.there; is = later.is }

one_index : (o : Option (List ℕ)) (a b : ℕ) → IsSomeAnd o (λ page. index_of page ≡ a) → IsSomeAnd o (λ page. index_of page ≡ b) → a ≡ b
one_index None a b one other = absurd one
one_index (Some page) a b one other = sym one ∙ other

all_once : (pages : Pages) (places : List TagPlace) → AreIndexed pages places → AreAllOnce (homes_of places)
all_once pages [] are = tt
all_once pages (p ∷ places) are = (
  (λ inside. again (at_place places p.home inside)),
  all_once pages places (record { indexed = λ k. are.indexed (suc k); apart = λ j k a b at_j at_k same. by_suc j k (are.apart (suc j) (suc k) a b at_j at_k same) }),
)
  where
    by_suc : (j k : ℕ) → suc j ≡ suc k → j ≡ k
    by_suc j k same = omega (arith, same)

    again : IsAt places p.home → ⊥
    again it =
        let other : IsSomeAnd (pages it.place.home) (λ page. index_of page ≡ it.place.index) = subst (λ o. IfSome o (λ place. IsSomeAnd (pages place.home) (λ page. index_of page ≡ place.index))) it.there (are.indexed (suc it.k)) in
        let same : p.index ≡ it.place.index = one_index (pages p.home) p.index it.place.index (are.indexed 0) (subst (λ (h : Home). IsSomeAnd (pages h) (λ page. index_of page ≡ it.place.index)) it.is other) in
        zero_not it.k (are.apart 0 (suc it.k) p it.place refl it.there same)
      where
        zero_not : (k : ℕ) → 0 ≡ suc k → ⊥
        zero_not k same = omega (arith, same)

pub once_known : (homes : List Home) → IsStable (AreAllOnce homes)
once_known [] = unit
once_known (home ∷ homes) = both not (once_known homes)

-- ---- what is left

-- if no case but one is left
pub must_be : (item : SlotItem) → IsRemoved (Some item) → ((first_tag : Option Home) (quota : Option CellAt) → ¬ item ≡ slot.Removed first_tag quota) → ⊥
must_be slot.Free removed not_so = removed
must_be (slot.Original entry) removed not_so = removed
must_be (slot.Clone of clone entry) removed not_so = removed
must_be (slot.Removed first_tag quota) removed not_so = not_so first_tag quota refl

-- what is removed and has no quota cell
record IsBare (o : Option SlotItem) : Type 0 where
  first_tag : Option Home
  is : o ≡ Some (slot.Removed first_tag None)

bare : (o : Option SlotItem) → IsRemoved o → option_and_then quota_of o ≡ None → IsBare o
bare None removed none = absurd removed
bare (Some slot.Free) removed none = absurd removed
bare (Some (slot.Original entry)) removed none = absurd removed
bare (Some (slot.Clone of clone entry)) removed none = absurd removed
bare (Some (slot.Removed first_tag None)) removed none = record { first_tag = first_tag; is = refl }
bare (Some (slot.Removed first_tag (Some quota))) removed none = absurd (none_not quota (sym none))

module _ (memory : DomainMemory) (number : ℕ) (removed : IsRemoved (slice_get memory.table.slots number)) (unused : (tag : Tag) → ¬ IsUsedIn memory number tag) (quota : HasNoQuota memory number) (all : FilesetMap) (is : IsStaged memory all) where
  abbrev d : DomainNow
  d = staged_in memory

  its : IsBare (slice_get memory.table.slots number)
  its = bare (slice_get memory.table.slots number) removed quota.none

  none_in : (home : Home) → Contains [] home → ⊥
  none_in home inside = omega (arith, inside.1)

  -- if the directory has a page, the slot has files
  has_files : (home : Home) → has_home (d.tags number) home ≡ true → HasFilesAmong d is.sound.files number
  has_files home has = by_first (named_by first_tag_of d number) (is.sound.below.chains.slots number)
    where
      inside : Contains (homes_of (d.tags number)) home
      inside = has_listed (d.tags number) home has

      by_first : (o : Option Home) → StandsInSlot d is.sound.files number o → HasFilesAmong d is.sound.files number
      by_first None empty = absurd (none_in home (subst (λ (ps : List TagPlace). Contains (homes_of ps) home) empty inside))
      by_first (Some first) stood = ⊎_elim (λ files. files) (λ empty. absurd (none_in home (subst (λ (hs : List Home). Contains hs home) (empty.listed ∙ quota.none_listed) inside))) stood

  pub left_over : IsLeftOver number d
  left_over = record {
    first_tag = its.first_tag;
    was = its.is;
    unused = λ tag. by_cell (cell_of d.pages (d.tags number) tag) (unused tag);
    low = λ home has. (has_files home has).among.low home has;
    none_listed = quota.none_listed;
  }
    where
      by_cell : (o : Option CellAt) → ¬ IsSome o → o ≡ None
      by_cell None not_some = refl
      by_cell (Some at) not_some = absurd (not_some refl)

  pub held_all : AreHeld memory.space (homes_of (d.tags number))
  held_all home inside =
      let has = listed_has (d.tags number) home inside in
      ((slot_together d is.sound.files is.sound.indexes is.sound.below is.sound.sound number (has_files home has)).tag_pages home has).held

  pub once_all_homes : AreAllOnce (homes_of (d.tags number))
  once_all_homes = by_first its.first_tag (is.stands.tables.laid.tags number (slot.Removed its.first_tag None) its.is)
    where
      by_first : (o : Option Home) → AreTagPlaces d.pages o (d.tags number) → AreAllOnce (homes_of (d.tags number))
      by_first None none = subst (λ (ps : List TagPlace). AreAllOnce (homes_of ps)) (sym none) tt
      by_first (Some first) are = all_once d.pages (d.tags number) (directory_indexed d.pages (d.tags number) are.directory)

-- ---- as soon as it is known

module _ (memory : DomainMemory) (number : ℕ) (removed : IsRemoved (slice_get memory.table.slots number)) (unused : (tag : Tag) → ¬ IsUsedIn memory number tag) (quota : HasNoQuota memory number) (staged : ∥ IsStagedForSome memory ∥₁) where
  abbrev homes : List Home
  homes = homes_of (places_in (slot_in memory.slots.items number))

  pub asks_held : AreHeld memory.space homes
  asks_held home inside = held_known memory.space home (∥∥₁_map staged (λ s. held_all memory number removed unused quota s.0 s.1 home inside))

  pub asks_low : (home : Home) → Contains homes home → 1 ≤ home.vol
  asks_low home inside = less 1 home.vol (∥∥₁_map staged (λ s. (left_over memory number removed unused quota s.0 s.1).low home (listed_has (places_in (slot_in memory.slots.items number)) home inside)))

  pub asks_once : AreAllOnce homes
  asks_once = once_known homes (∥∥₁_map staged (λ s. once_all_homes memory number removed unused quota s.0 s.1))

-- ---- the slot is there

pub slot_within : (memory : DomainMemory) (number : ℕ) → number < 32 → ∥ MayGoBack memory ∥₁ → number < length memory.slots.items
slot_within memory number low may = less _ _ (∥∥₁_map may (λ m. omega (arith, low, m.has.count)))
