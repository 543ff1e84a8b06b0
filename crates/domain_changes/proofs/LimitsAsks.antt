-- What the steps that set an owner's limits ask, and what is known after them.
use Rattle.std.proofs.Common.{◌≡◌, ◌∙◌, ◌⊎◌, ◌<◌, ℕ, zero, suc, Bool, true, false, List, [], ◌∷◌, Option, Some, None, IsSome, IsSomeAnd, Contains, is_some, length, slice_get, slice_index, slice_index_or, refl, sym, ap, subst, arith, ⊎_elim, true≢false}
use Rattle.std.specs.FinMap.{get}
use Rattle.domain_memory.specs.domain_base.declared.place.CellAt.{CellAt}
use Rattle.domain_memory.specs.domain_base.declared.place.Home.{Home}
use Rattle.domain_memory.specs.metadata_cells.Chain.{PlacedCell}
use Rattle.domain_memory.specs.tag_dirs.declared.dir.TagPlace.{TagPlace}
use Rattle.domain_memory.specs.tag_dirs.Directory.{IsDirectoryAt}
use Rattle.domain_memory.specs.free_cells.Belong.{IsPageOf, home_at}
use Rattle.domain_memory.specs.free_cells.Cells.{table_of}
use Rattle.domain_memory.specs.fileset_model.Filesets.{FilesetMap}
use Rattle.domain_memory.specs.fileset_values.declared.command.Owner.{Owner}
use Rattle.domain_memory.specs.fileset_values.declared.command.Owner.TheVariants as owner
use Rattle.domain_memory.specs.fileset_model.declared.fileset.FilesetSlot.{FilesetSlot}
use Rattle.domain_memory.specs.fileset_model.declared.fileset.Limits.{Limits}
use Rattle.domain_memory.specs.fileset_table.Table.{IsCellNumber, IsTable, is_original, with_slot}
use Rattle.domain_memory.specs.fileset_table.declared.slot.FilesetEntry.{FilesetEntry}
use Rattle.domain_memory.specs.fileset_table.declared.slot.SlotItem.{SlotItem}
use Rattle.domain_memory.specs.fileset_table.declared.slot.SlotItem.TheVariants as slot
use Rattle.domain_memory.proofs.OfFilesetTable.Changing.{changes}
use Rattle.domain_memory.specs.word_forms.Forms.{is_fileset_name}
use Rattle.domain_memory.specs.release_steps.QuotaChain.{IsQuotaChain}
use Rattle.domain_memory.specs.release_list.Standing.{IsQuotas}
use Rattle.domain_memory.specs.staged_pages.Store.{pages_of}
use Rattle.domain_memory.specs.standing_laws.BoundedFileset.{entry_bounded}
use Rattle.domain_memory.specs.standing_laws.SetsQuota.{entry_limited}
use Rattle.domain_memory.proofs.OfStandingLaws.CellsNow.{below_28}
use Rattle.domain_memory.specs.Slots.{places_in, slot_in}
use Rattle.domain_memory.specs.declared.slots.SlotFiles.{SlotFiles}
use Rattle.domain_memory.specs.Staged.{IsStaged}
use Rattle.domain_memory.specs.declared.memory.DomainMemory.{DomainMemory}
use Rattle.domain_changes.specs.Limits.{SetsInChain, SetsInPages}
use Rattle.domain_changes.specs.Table.{HasOriginal, HasTablePage, PutsSlot}
use Rattle.domain_changes.proofs.Limited.{IsLimited}
use Rattle.domain_changes.proofs.LimitsBounded.{bounded_so}
use Rattle.domain_changes.proofs.LimitsSet.{set_so}
use Rattle.domain_changes.proofs.SlotPut.{allowed_at, one_entry}

-- ---- the table

-- an original may have other limits and another quota cell
pub slot_changes : (memory : DomainMemory) (number : ℕ) (entry its : FilesetEntry) → IsTable memory.table → HasOriginal memory number entry → entry.name ≡ its.name → IsCellNumber its.quota → IsTable (with_slot number (slot.Original its) memory.table)
slot_changes memory number entry its good has name low =
    changes memory.table number (slot.Original entry) (slot.Original its) good has name
    (subst (λ (n : List ℕ). is_fileset_name n ≡ true) name (allowed_at memory.table.slots number (slot.Original entry) good.allowed has).0, low)

pub its_quota : (memory : DomainMemory) (number : ℕ) (entry : FilesetEntry) → IsTable memory.table → HasOriginal memory number entry → IsCellNumber entry.quota
its_quota memory number entry good has = (allowed_at memory.table.slots number (slot.Original entry) good.allowed has).1

-- the original that a slot has
pub its_original : (o : Option SlotItem) → IsSomeAnd o (λ item. is_original item ≡ true) → (entry : FilesetEntry) × (o ≡ Some (slot.Original entry))
its_original None is = absurd is
its_original (Some slot.Free) is = absurd (true≢false (sym is))
its_original (Some (slot.Original entry)) is = (entry, refl)
its_original (Some (slot.Clone of number entry)) is = absurd (true≢false (sym is))
its_original (Some (slot.Removed first_tag quota)) is = absurd (true≢false (sym is))

slice_same : (xs : List ℕ) (k x : ℕ) → k < length xs → slice_index_or xs k x ≡ x → slice_index xs k ≡ x
slice_same [] k x within is = absurd (omega (arith, within))
slice_same (y ∷ xs) zero x within is = is
slice_same (y ∷ xs) (suc k) x within is = slice_same xs k x (omega (arith, within)) is

-- ---- once the chain has the limits

module _ (number prefer : ℕ) (who : Owner) (limits : Limits) (entry : FilesetEntry) (start : CellAt) (old mid : DomainMemory) (sets : SetsInChain number prefer who limits entry start old mid) where
  begins_low : (chain : List PlacedCell) → IsQuotas (pages_of mid.pages) start chain → start.cell < 28
  begins_low [] is = absurd is
  begins_low (first ∷ rest) is = subst (λ (a : CellAt). a.cell < 28) is.0 (below_28 (pages_of mid.pages) first.at first.cell is.1.links.stands)

  pub start_low : (chain : List PlacedCell) → IsQuotaChain (pages_of old.pages) entry.quota chain → start.cell < 28
  start_low chain is = let s = sets.sets chain is in begins_low s.after s.is

  some_page : (P : List ℕ → Type 0) (o : Option (List ℕ)) → IsSomeAnd o P → IsSome o
  some_page P None is = absurd is
  some_page P (Some page) is = refl

  -- the page of the table is there still: it is one of cells then, or is what it was
  page_there : (home : Home) → IsSome (pages_of old.pages home) → IsSome (pages_of mid.pages home)
  page_there home was = by_test (is_some (pages_of mid.pages home)) refl
    where
      by_test : (b : Bool) → is_some (pages_of mid.pages home) ≡ b → IsSome (pages_of mid.pages home)
      by_test true is = is
      by_test false none = absurd (true≢false (sym (subst IsSome (sym (sets.elsewhere home not_on)) was) ∙ none))
        where
          not_on : ¬ Contains (table_of mid.cells home.vol) home.page
          not_on on =
              let there = some_page (IsPageOf (table_of mid.cells home.vol) on.0) (pages_of mid.pages (home_at mid.cells home.vol on.0)) (sets.allocated.belong.run home.vol on.0 on.1) in
              true≢false (sym (subst (λ (p : ℕ). IsSome (pages_of mid.pages (record { vol = home.vol; page = p }))) (slice_same (table_of mid.cells home.vol) on.0 home.page on.1 on.2) there) ∙ none)

  pub mid_page : HasTablePage old → HasTablePage mid
  mid_page has = by_home mid.frame.anchor.table old.frame.anchor.table (ap (λ (m : DomainMemory). m.frame.anchor.table) sets.same) has
    where
      by_home : (o p : Option Home) → o ≡ p → IsSomeAnd p (λ h. IsSome (pages_of old.pages h)) → IsSomeAnd o (λ h. IsSome (pages_of mid.pages h))
      by_home o None is has = absurd has
      by_home o (Some h) is has = subst (λ (x : Option Home). IsSomeAnd x (λ y. IsSome (pages_of mid.pages y))) (sym is) (page_there h has)

-- ---- once the pages have them

pub pages_limited : (number prefer : ℕ) (who : Owner) (limits : Limits) (old mid : DomainMemory) → old.was ≡ None → SetsInPages number prefer who limits old mid → (entry : FilesetEntry) → HasOriginal old number entry → (all : FilesetMap) → IsStaged old all
    → (fileset : FilesetSlot) → get all entry.name ≡ Some fileset → IsLimited number who limits entry all fileset old mid
pages_limited number prefer who limits old mid fresh s entry has all is fileset there = ⊎_elim
    (λ l.
    let b = l.1 in
    subst (λ (w : Owner). IsLimited number w limits entry all fileset old mid) (sym l.0)
    (bounded_so number entry limits old mid fresh has (subst (λ (x : FilesetEntry). PutsSlot number (slot.Original (entry_bounded limits x)) old mid) (one_entry b.entry entry (sym b.has ∙ has)) b.puts) all is fileset there))
    (λ r.
    let o = r.1 in
    let same = one_entry o.entry entry (sym o.has ∙ has) in
    set_so number prefer who limits entry o.start old o.mid mid r.0 has (subst (λ (x : FilesetEntry). SetsInChain number prefer who limits x o.start old o.mid) same o.sets)
    (subst (λ (x : FilesetEntry). PutsSlot number (slot.Original (entry_limited o.start x)) o.mid mid) same o.puts) all is fileset there)
    s

-- an original has files in memory
nothing_first : (P : TagPlace → Type 0) → IsSomeAnd (slice_get [] 0) P → ⊥
nothing_first P is = absurd is

pub slot_there : (old : DomainMemory) (number : ℕ) (entry : FilesetEntry) → HasOriginal old number entry → (all : FilesetMap) → IsStaged old all → IsSome (slot_in old.slots.items number)
slot_there old number entry has all is = by_slot (slot_in old.slots.items number) (is.stands.tables.laid.tags number (slot.Original entry) has)
  where
    by_slot : (o : Option SlotFiles) → IsDirectoryAt (pages_of old.pages) entry.first_tag (places_in o) → IsSome o
    by_slot None are = absurd (nothing_first (λ place. place.home ≡ entry.first_tag) are.begins)
    by_slot (Some its) are = refl
