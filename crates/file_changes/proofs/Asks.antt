-- What calls on the files of a slot ask.
use Rattle.std.proofs.Common.{◌≡◌, ℕ, true, List, Option, Some, None, IfSome, IsSome, IsSomeAnd, slice_get, refl, sym, ap, subst, true≢false}
use Rattle.std.proofs.Math.Logic.{∥∥₁_elim, ∥∥₁_map}
use Rattle.domain_memory.specs.fileset_files.Files.{AreFiles, Chains, HasFiles}
use Rattle.domain_memory.specs.fileset_files.Together.{HasTogether}
use Rattle.domain_memory.specs.stored_set.Sets.{HasSet, StandsAsSet}
use Rattle.domain_memory.proofs.OfStoredSet.StableSet.{has_set as set_there}
use Rattle.domain_memory.specs.fileset_table.declared.slot.FilesetEntry.{FilesetEntry}
use Rattle.domain_memory.specs.fileset_table.declared.slot.SlotItem.{SlotItem}
use Rattle.domain_memory.specs.fileset_table.declared.slot.SlotItem.TheVariants as slot
use Rattle.domain_memory.proofs.OfStoredSet.Stable.{one_number}
use Rattle.domain_memory.specs.tag_dirs.declared.dir.TagPlace.{TagPlace}
use Rattle.domain_memory.specs.staged_pages.Store.{pages_of}
use Rattle.domain_memory.specs.domain_layout.CellRules.{of_original}
use Rattle.domain_memory.specs.domain_standing.Domain.{item_in}
use Rattle.domain_memory.proofs.OfStandingLaws.FilesetPut.{stood_in}
use Rattle.domain_memory.specs.Slots.{HasNumber, places_in, slot_in}
use Rattle.domain_memory.specs.declared.slots.SlotFiles.{SlotFiles}
use Rattle.domain_memory.specs.Staged.{IsStagedForSome, MayGoBack, staged_in}
use Rattle.domain_memory.specs.declared.memory.DomainMemory.{DomainMemory}
use Rattle.file_changes.specs.Stages.{AreFilesIn}

-- an original is in the slot
pub record HasEntry (o : Option SlotItem) : Type 0 where
  pub entry : FilesetEntry
  pub there : o ≡ Some (slot.Original entry)

pub has_entry : (o : Option SlotItem) → of_original o ≡ true → HasEntry o
has_entry None is = absurd (true≢false (sym is))
has_entry (Some slot.Free) is = absurd (true≢false (sym is))
has_entry (Some (slot.Original entry)) is = record { entry = entry; there = refl }
has_entry (Some (slot.Clone of clone entry)) is = absurd (true≢false (sym is))
has_entry (Some (slot.Removed first_tag quota)) is = absurd (true≢false (sym is))

module _ (memory : DomainMemory) (number : ℕ) (staged : ∥ IsStagedForSome memory ∥₁) (may : ∥ MayGoBack memory ∥₁) (original : of_original (slice_get memory.table.slots number) ≡ true) where
  its : HasEntry (item_in (staged_in memory) number)
  its = has_entry (slice_get memory.table.slots number) original

  not_empty : slot_in memory.slots.items number ≡ None → ⊥
  not_empty none = ∥∥₁_elim staged (λ x y. absurd x) (λ s. nothing (s.1.stands.tables.laid.tags number (slot.Original its.entry) its.there).begins)
    where
      nothing : IsSomeAnd (slice_get (places_in (slot_in memory.slots.items number)) 0) (λ place. place.home ≡ its.entry.first_tag) → ⊥
      nothing begins = subst (λ (o : Option SlotFiles). IsSomeAnd (slice_get (places_in o) 0) (λ place. place.home ≡ its.entry.first_tag)) none begins

  pub there : IsSome (slot_in memory.slots.items number)
  there = by_slot (slot_in memory.slots.items number) refl
    where
      by_slot : (o : Option SlotFiles) → slot_in memory.slots.items number ≡ o → IsSome o
      by_slot None none = absurd (not_empty none)
      by_slot (Some files) is = refl

  module _ (files : SlotFiles) (is : slot_in memory.slots.items number ≡ Some files) where
    pub its_number : files.files.fileset ≡ number
    its_number = one_number files.files.fileset number (∥∥₁_map may (λ m. subst (λ o. IfSome o (HasNumber number)) is (m.has.numbered number)))

    pub its_places : places_in (slot_in memory.slots.items number) ≡ files.files.tags
    its_places = ap places_in is

    has_set : HasSet files.files.fileset files.files.tags memory.space memory.cells (pages_of memory.pages)
    has_set = set_there files.files.fileset files.files.tags memory.space memory.cells (pages_of memory.pages) (∥∥₁_map staged (λ s.
        let it = stood_in (staged_in memory) s.0 s.1.stands.slots number its.entry its.there in (
          it.shape_was.shown,
          subst (λ (ps : List TagPlace). StandsAsSet files.files.fileset ps memory.space memory.cells (pages_of memory.pages) it.shape_was.shown) its_places
              (subst (λ (n : ℕ). StandsAsSet n (places_in (slot_in memory.slots.items number)) memory.space memory.cells (pages_of memory.pages) it.shape_was.shown) (sym its_number) it.stood.set),
        )))

    pub has_together : HasTogether files.files.fileset files.files.tags memory.space memory.cells (pages_of memory.pages)
    has_together = (has_set.1.chains, has_set.1.stands.together)

    pub has_files : HasFiles files.files.fileset files.files.tags (pages_of memory.pages)
    has_files = (has_set.1.chains, has_set.1.stands.together.files)

    -- files by the slot are files by its number
    pub files_in : (chains : Chains) → AreFiles files.files.fileset files.files.tags (pages_of memory.pages) chains → AreFilesIn memory number chains
    files_in chains are =
        subst (λ (n : ℕ). AreFiles n (places_in (slot_in memory.slots.items number)) (pages_of memory.pages) chains) its_number
        (subst (λ (ps : List TagPlace). AreFiles files.files.fileset ps (pages_of memory.pages) chains) (sym its_places) are)

    pub files_by : (chains : Chains) → AreFilesIn memory number chains → AreFiles files.files.fileset files.files.tags (pages_of memory.pages) chains
    files_by chains are =
        subst (λ (n : ℕ). AreFiles n files.files.tags (pages_of memory.pages) chains) (sym its_number)
        (subst (λ (ps : List TagPlace). AreFiles number ps (pages_of memory.pages) chains) its_places are)

  -- and so there are some
  pub some_files : (chains : Chains) × AreFilesIn memory number chains
  some_files = by_slot (slot_in memory.slots.items number) refl
    where
      by_slot : (o : Option SlotFiles) → slot_in memory.slots.items number ≡ o → (chains : Chains) × AreFilesIn memory number chains
      by_slot None none = absurd (not_empty none)
      by_slot (Some files) is = let f = has_files files is in (f.0, files_in files is f.0 f.1)
