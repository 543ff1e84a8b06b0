-- What lending the files of a fileset asks, if it is known that memory is that of a domain.
use Rattle.std.proofs.Common.{◌≡◌, ◌<◌, ◌≤◌, ℕ, zero, suc, true, List, [], ◌∷◌, Option, Some, None, IfSome, IsSomeAnd, length, slice_get, refl, sym, ap, subst, arith, ⊎_elim, true≢false}
use Rattle.std.proofs.Math.Logic.{∥∥₁_elim, ∥∥₁_map₂}
use Rattle.std.proofs.lemmas.Bool.{cases_lt}
use Rattle.domain_memory.specs.tag_dirs.declared.dir.TagPlace.{TagPlace}
use Rattle.domain_memory.specs.fileset_table.declared.slot.FilesetEntry.{FilesetEntry}
use Rattle.domain_memory.specs.fileset_table.declared.slot.SlotItem.{SlotItem}
use Rattle.domain_memory.specs.fileset_table.declared.slot.SlotItem.TheVariants as slot
use Rattle.domain_memory.specs.stored_set.Sets.{HasSet, StandsAsSet}
use Rattle.domain_memory.proofs.OfStoredSet.StableSet.{has_set}
use Rattle.domain_memory.specs.staged_pages.Store.{pages_of}
use Rattle.domain_memory.specs.domain_layout.CellRules.{of_original}
use Rattle.domain_memory.specs.domain_standing.Domain.{item_in}
use Rattle.domain_memory.proofs.OfStandingLaws.FilesetPut.{stood_in}
use Rattle.domain_memory.specs.Slots.{HasNumber, places_in, slot_in}
use Rattle.domain_memory.specs.declared.slots.SlotFiles.{SlotFiles}
use Rattle.domain_memory.specs.Staged.{IsStagedForSome, MayGoBack, staged_in}
use Rattle.domain_memory.specs.declared.memory.DomainMemory.{DomainMemory}

past : (slots : List (Option SlotFiles)) (k : ℕ) → length slots ≤ k → slot_in slots k ≡ None
past [] k far = refl
past (s ∷ slots) zero far = absurd (omega (arith, far))
past (s ∷ slots) (suc k) far = past slots k (omega (arith, far))

module _ (memory : DomainMemory) (number : ℕ) (staged : ∥ IsStagedForSome memory ∥₁) (may : ∥ MayGoBack memory ∥₁) (original : of_original (slice_get memory.table.slots number) ≡ true) where
  record HasEntry (o : Option SlotItem) : Type 0 where
    entry : FilesetEntry
    there : o ≡ Some (slot.Original entry)

  has_entry : (o : Option SlotItem) → of_original o ≡ true → HasEntry o
  has_entry None is = absurd (true≢false (sym is))
  has_entry (Some slot.Free) is = absurd (true≢false (sym is))
  has_entry (Some (slot.Original entry)) is = record { entry = entry; there = refl }
  has_entry (Some (slot.Clone of clone entry)) is = absurd (true≢false (sym is))
  has_entry (Some (slot.Removed first_tag quota)) is = absurd (true≢false (sym is))

  its : HasEntry (item_in (staged_in memory) number)
  its = has_entry (slice_get memory.table.slots number) original

  -- something is in the slot
  pub not_empty : slot_in memory.slots.items number ≡ None → ⊥
  not_empty none = ∥∥₁_elim staged (λ x y. absurd x) (λ s. nothing (s.1.stands.tables.laid.tags number (slot.Original its.entry) its.there).begins)
    where
      nothing : IsSomeAnd (slice_get (places_in (slot_in memory.slots.items number)) 0) (λ place. place.home ≡ its.entry.first_tag) → ⊥
      nothing begins = subst (λ (o : Option SlotFiles). IsSomeAnd (slice_get (places_in o) 0) (λ place. place.home ≡ its.entry.first_tag)) none begins

  pub within : number < length memory.slots.items
  within = ⊎_elim (λ low. low) (λ far. absurd (not_empty (past memory.slots.items number far))) (cases_lt number (length memory.slots.items))

  -- and its files are shown as a set
  pub its_set : (files : SlotFiles) → slot_in memory.slots.items number ≡ Some files → HasSet files.files.fileset files.files.tags memory.space memory.cells (pages_of memory.pages)
  its_set files there = has_set files.files.fileset files.files.tags memory.space memory.cells (pages_of memory.pages) (∥∥₁_map₂ staged may (λ s m.
      let it = stood_in (staged_in memory) s.0 s.1.stands.slots number its.entry its.there in
      let its_number : files.files.fileset ≡ number = subst (λ o. IfSome o (HasNumber number)) there (m.has.numbered number) in (
        it.shape_was.shown,
        subst (λ (ps : List TagPlace). StandsAsSet files.files.fileset ps memory.space memory.cells (pages_of memory.pages) it.shape_was.shown) (ap places_in there)
            (subst (λ (n : ℕ). StandsAsSet n (places_in (slot_in memory.slots.items number)) memory.space memory.cells (pages_of memory.pages) it.shape_was.shown) (sym its_number) it.stood.set),
      )))
