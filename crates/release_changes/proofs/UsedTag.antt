-- A tag of what is in a slot of memory that is used, or that none is.
use Rattle.std.proofs.Common.{◌≡◌, ◌∙◌, ◌<◌, ◌≤◌, ◌+◌, ◌/◌, ◌%◌, ◌==◌, ℕ, suc, Bool, true, false, cond, List, [], ◌∷◌, Option, Some, None, IfNone, IfSome, IsSome, IsSomeAnd, is_some, length, slice_get, refl, sym, ap, subst, arith, ⊎_elim, true≢false}
use Rattle.std.proofs.Math.Logic.{∥∥₁_map}
use Rattle.std.proofs.lemmas.Bool.{eqb-false, eqb-true}
use Rattle.std.specs.Option.{option_and_then, option_map}
use Rattle.domain_changes.specs.domain_base.declared.place.CellAt.{CellAt}
use Rattle.domain_changes.specs.domain_base.declared.place.Home.{Home}
use Rattle.domain_changes.specs.domain_base.declared.place.Tag.{Tag}
use Rattle.domain_changes.specs.page_store.Pages.{Pages}
use Rattle.domain_changes.specs.metadata_cells.Chain.{PlacedCell}
use Rattle.domain_changes.specs.tag_dirs.TagPage.{entry_of}
use Rattle.domain_changes.specs.tag_dirs.Directory.{IsDirectory, IsOnPage, cell_for, cell_of, home_with}
use Rattle.domain_changes.specs.tag_dirs.declared.dir.TagPlace.{TagPlace}
use Rattle.domain_changes.specs.file_chains.Files.{IsFile}
use Rattle.domain_changes.specs.fileset_files.Files.{AreFiles, Chains, HasFiles, LeadsToFile}
use Rattle.domain_changes.specs.fileset_model.Filesets.{FilesetMap}
use Rattle.domain_changes.specs.fileset_table.declared.slot.SlotItem.{SlotItem}
use Rattle.domain_changes.specs.fileset_table.declared.slot.SlotItem.TheVariants as slot
use Rattle.domain_changes.proofs.OfStoredSet.Stable.{one_number}
use Rattle.domain_changes.specs.domain_standing.Chains.{IsRemoved, StandsInSlot}
use Rattle.domain_changes.specs.domain_standing.Domain.{DomainNow}
use Rattle.domain_changes.specs.standing_laws.NewFileset.{no_chains}
use Rattle.domain_changes.specs.domain_layout.Layout.{first_tag_of}
use Rattle.domain_changes.specs.staged_pages.Store.{pages_of}
use Rattle.domain_changes.specs.domain_memory.Slots.{HasNumber, places_in, slot_in}
use Rattle.domain_changes.specs.domain_memory.declared.slots.SlotFiles.{SlotFiles}
use Rattle.domain_changes.specs.domain_memory.Staged.{IsStaged, IsStagedForSome, MayGoBack, staged_in}
use Rattle.domain_changes.specs.domain_memory.declared.memory.DomainMemory.{DomainMemory}
use Rattle.domain_changes.specs.domain_memory.Going.{IsUsedIn}
use Rattle.release_changes.proofs.TagAsks.{files_known}

-- ---- a tag whose slot is on no page leads nowhere

record IsOnSome (places : List TagPlace) (index : ℕ) : Type 0 where
  k : ℕ
  within : k < length places
  is : IsSomeAnd (slice_get places k) (λ place. index ≡ place.index)

on_some : (places : List TagPlace) (index : ℕ) → IsSome (home_with places index) → IsOnSome places index
on_some [] index some = absurd (true≢false (sym some))
on_some (p ∷ places) index some = by_test (p.index == index) refl some (λ (later : IsSome (home_with places index)). on_some places index later)
  where
    by_test : (b : Bool) → (p.index == index) ≡ b → IsSome (cond b (Some p.home) (home_with places index)) → (IsSome (home_with places index) → IsOnSome places index) → IsOnSome (p ∷ places) index
    by_test true same some rest = record { k = 0; within = omega arith; is = sym (eqb-true p.index index same) }
    by_test false apart some rest = let later = rest some in record { k = suc later.k; within = omega (arith, later.within); is = later.is }

-- a tag that leads to a cell has its slot on a page
page_of_tag : (pages : Pages) (places : List TagPlace) (tag : Tag) → IsSome (cell_of pages places tag) → IsSome (home_with places (tag.slot / 1022))
page_of_tag pages places tag some = by_home (home_with places (tag.slot / 1022)) refl
  where
    by_home : (o : Option Home) → home_with places (tag.slot / 1022) ≡ o → IsSome o
    by_home None none = absurd (true≢false (sym (subst (λ o. IsSome (option_and_then (cell_for tag.seq) (option_map (λ page. entry_of page (tag.slot % 1022)) (option_and_then pages o)))) none some)))
    by_home (Some home) is = refl

-- if no page has a tag that leads to a cell, none does
pub none_used : (pages : Pages) (places : List TagPlace) (count : ℕ) → length places ≤ count → ((k : ℕ) → k < count → (tag : Tag) → IsOnPage places k tag → cell_of pages places tag ≡ None) → (tag : Tag) → ¬ IsSome (cell_of pages places tag)
none_used pages places count all none tag some =
    let on = on_some places (tag.slot / 1022) (page_of_tag pages places tag some) in
    true≢false (sym some ∙ ap is_some (none on.k (omega (arith, on.within, all)) tag on.is))

-- a tag that names a file leads to its first cell
pub names_used : (fileset : ℕ) (places : List TagPlace) (pages : Pages) (chains : Chains) → AreFiles fileset places pages chains → (tag : Tag) → IsSome (chains tag) → IsSome (cell_of pages places tag)
names_used fileset places pages chains are tag some = by_chain (chains tag) some (are.some tag)
  where
    by_cell : (cells : List PlacedCell) (o : Option CellAt) → IsSomeAnd o (λ at. IsFile pages at cells) → IsSome o
    by_cell cells None is = absurd is
    by_cell cells (Some at) is = refl

    by_chain : (o : Option (List PlacedCell)) → IsSome o → IfSome o (LeadsToFile fileset places pages tag) → IsSome (cell_of pages places tag)
    by_chain None some leads = absurd (true≢false (sym some))
    by_chain (Some cells) some leads = by_cell cells (cell_of pages places tag) leads.leads

-- ---- the files of a slot of what is being removed

no_directory : (pages : Pages) → IsDirectory pages []
no_directory pages = record { run = λ k. tt; apart = λ j k p q at_j. absurd (nothing at_j); first = tt }
  where
    nothing : {p : TagPlace} → None ≡ Some p → ⊥
    nothing e = cc

-- if no tag leads to a cell there is no file
none_are : (fileset : ℕ) (places : List TagPlace) (pages : Pages) → IsDirectory pages places → ((tag : Tag) → cell_of pages places tag ≡ None) → HasFiles fileset places pages
none_are fileset places pages directory none = (no_chains, record { directory = directory; none = λ tag is. none tag; some = λ tag. tt; apart = λ s t differ. tt })

module _ (memory : DomainMemory) (number : ℕ) (all : FilesetMap) (is : IsStaged memory all) (removed : IsRemoved (slice_get memory.table.slots number)) where
  abbrev d : DomainNow
  d = staged_in memory

  pub files_there : HasFiles number (d.tags number) d.pages
  files_there = by_item (slice_get memory.table.slots number) refl removed
    where
      by_item : (o : Option SlotItem) → slice_get memory.table.slots number ≡ o → IsRemoved o → HasFiles number (d.tags number) d.pages
      by_item None at gone = absurd gone
      by_item (Some slot.Free) at gone = absurd gone
      by_item (Some (slot.Original entry)) at gone = absurd gone
      by_item (Some (slot.Clone of clone entry)) at gone = absurd gone
      by_item (Some (slot.Removed None quota)) at gone =
          subst (λ (ps : List TagPlace). HasFiles number ps d.pages) (sym (is.stands.tables.laid.tags number (slot.Removed None quota) at)) (none_are number [] d.pages (no_directory d.pages) (λ tag. refl))
      by_item (Some (slot.Removed (Some first) quota)) at gone = ⊎_elim
          (λ has. (has.chains, has.are))
          (λ empty. none_are number (d.tags number) d.pages (is.stands.tables.laid.tags number (slot.Removed (Some first) quota) at).directory empty.none)
          (subst (λ o. StandsInSlot d is.sound.files number (option_and_then first_tag_of o)) at (is.sound.below.chains.slots number))

module _ (memory : DomainMemory) (number : ℕ) (staged : ∥ IsStagedForSome memory ∥₁) (may : ∥ MayGoBack memory ∥₁) (removed : IsRemoved (slice_get memory.table.slots number)) (slot : SlotFiles) (in_slot : slot_in memory.slots.items number ≡ Some slot) where
  pub has_files : HasFiles slot.files.fileset slot.files.tags (pages_of memory.pages)
  has_files = files_known slot.files.fileset slot.files.tags (pages_of memory.pages) (∥∥₁_map staged (λ s.
      subst (λ (n : ℕ). HasFiles n slot.files.tags (pages_of memory.pages)) (sym its_number)
      (subst (λ (o : Option SlotFiles). HasFiles number (places_in o) (pages_of memory.pages)) in_slot (files_there memory number s.0 s.1 removed))))
    where
      its_number : slot.files.fileset ≡ number
      its_number = one_number slot.files.fileset number (∥∥₁_map may (λ m. subst (λ o. IfSome o (HasNumber number)) in_slot (m.has.numbered number)))

-- ---- what a search of the pages says

module _ (memory : DomainMemory) (number : ℕ) (slot : SlotFiles) (in_slot : slot_in memory.slots.items number ≡ Some slot) where
  abbrev pages : Pages
  pages = pages_of memory.pages

  -- what is found is used
  pub found_used : HasFiles slot.files.fileset slot.files.tags pages → (o : Option Tag) → ((chains : Chains) → AreFiles slot.files.fileset slot.files.tags pages chains → IfSome o (λ tag. IsSome (chains tag))) → IfSome o (IsUsedIn memory number)
  found_used has None there = tt
  found_used has (Some tag) there = subst (λ (o : Option SlotFiles). IsSome (cell_of pages (places_in o) tag)) (sym in_slot) (names_used slot.files.fileset slot.files.tags pages has.0 has.1 tag (there has.0 has.1))

  -- where nothing is found on a page, no tag there leads to a cell
  pub none_on : HasFiles slot.files.fileset slot.files.tags pages → (k : ℕ) (o : Option Tag) → is_some o ≡ false → ((chains : Chains) → AreFiles slot.files.fileset slot.files.tags pages chains → IfNone o ((tag : Tag) → IsOnPage slot.files.tags k tag → chains tag ≡ None)) → (tag : Tag) → IsOnPage slot.files.tags k tag → cell_of pages slot.files.tags tag ≡ None
  none_on has k (Some t) none there tag on = absurd (true≢false none)
  none_on has k None none there tag on = has.1.none tag (there has.0 has.1 tag on)

  pub none_in : (count : ℕ) → length slot.files.tags ≤ count → ((k : ℕ) → k < count → (tag : Tag) → IsOnPage slot.files.tags k tag → cell_of pages slot.files.tags tag ≡ None) → (tag : Tag) → ¬ IsUsedIn memory number tag
  none_in count all none tag used = none_used pages slot.files.tags count all none tag (subst (λ (o : Option SlotFiles). IsSome (cell_of pages (places_in o) tag)) in_slot used)

  -- the next page says it too
  pub next_page : (page : ℕ) → ((k : ℕ) → k < page → (tag : Tag) → IsOnPage slot.files.tags k tag → cell_of pages slot.files.tags tag ≡ None) → ((tag : Tag) → IsOnPage slot.files.tags page tag → cell_of pages slot.files.tags tag ≡ None) → (k : ℕ) → k < page + 1 → (tag : Tag) → IsOnPage slot.files.tags k tag → cell_of pages slot.files.tags tag ≡ None
  next_page page before at k within = by_order (k == page) refl
    where
      by_order : (b : Bool) → (k == page) ≡ b → (tag : Tag) → IsOnPage slot.files.tags k tag → cell_of pages slot.files.tags tag ≡ None
      by_order true same tag on = at tag (subst (λ n. IsOnPage slot.files.tags n tag) (eqb-true k page same) on)
      by_order false apart tag on = before k (omega (arith, within, eqb-false k page apart)) tag on
