-- What is read of the slots has the pages that a layout has.
use Rattle.std.proofs.Common.{◌≡◌, ◌∙◌, ℕ, List, [], Option, None, Some, IfSome, slice_get, sym, ap, subst, arith, ⊎_elim}
use Rattle.std.specs.Option.{option_and_then}
use Rattle.std.proofs.lemmas.Option.{slice_get_cases, slice_get_past}
use Rattle.no_faults.specs.domain_base.declared.place.Home.{Home}
use Rattle.no_faults.specs.page_store.Pages.{Pages}
use Rattle.no_faults.specs.tag_dirs.declared.dir.TagPlace.{TagPlace}
use Rattle.no_faults.proofs.OfTagDirs.Reading.{same_directory}
use Rattle.no_faults.specs.fileset_table.Table.{IsTable, Table}
use Rattle.no_faults.specs.domain_layout.Layout.{AreTagPlaces, IsLayout, Layout, first_tag_of}
use Rattle.no_faults.specs.domain_memory.Slots.{HasNumber, places_in, slot_in}
use Rattle.no_faults.specs.domain_memory.declared.slots.SlotFiles.{SlotFiles}
use Rattle.attached_domain.specs.Read.{IsSettledSlot}
use Rattle.attached_domain.specs.Slots.{AreReadSlots, IsReadOf}

same_places : (pages : Pages) (first : Option Home) (a b : List TagPlace) → AreTagPlaces pages first a → AreTagPlaces pages first b → a ≡ b
same_places pages None a b are of_b = are ∙ sym of_b
same_places pages (Some first) a b are of_b = same_directory pages first a b are of_b

module _ (pages : Pages) (slots : List (Option SlotFiles)) (number : ℕ) where
  pub settled : (table : Table) → AreReadSlots pages table slots → IfSome (slot_in slots number) IsSettledSlot
  settled table are =
      ⊎_elim (λ some.
      let slot = some.0 in
      let there : slice_get slots number ≡ Some slot = some.2 in
      subst (λ (o : Option SlotFiles). IfSome o IsSettledSlot) (sym (ap (option_and_then (λ (s : Option SlotFiles). s)) there)) (are.each number slot there).is.settled)
      (λ none. subst (λ (o : Option SlotFiles). IfSome o IsSettledSlot) (sym (ap (option_and_then (λ (s : Option SlotFiles). s)) none.1)) _)
      (slice_get_cases slots number).1

  pub numbered : (table : Table) → AreReadSlots pages table slots → IfSome (slot_in slots number) (HasNumber number)
  numbered table are =
      ⊎_elim (λ some.
      let slot = some.0 in
      let there : slice_get slots number ≡ Some slot = some.2 in
      subst (λ (o : Option SlotFiles). IfSome o (HasNumber number)) (sym (ap (option_and_then (λ (s : Option SlotFiles). s)) there)) (are.each number slot there).numbered)
      (λ none. subst (λ (o : Option SlotFiles). IfSome o (HasNumber number)) (sym (ap (option_and_then (λ (s : Option SlotFiles). s)) none.1)) _)
      (slice_get_cases slots number).1

  pub their_pages : (layout : Layout) → IsLayout pages layout → IsTable layout.table → AreReadSlots pages layout.table slots
      → ((k : ℕ) → slice_get layout.table.slots k ≡ None → layout.tags k ≡ []) → places_in (slot_in slots number) ≡ layout.tags number
  their_pages layout laid good are none_there =
      ⊎_elim (λ some.
      let slot = some.0 in
      let there : slice_get slots number ≡ Some slot = some.2 in
      let of : IsReadOf pages layout.table number slot = are.each number slot there in
      ap places_in (ap (option_and_then (λ (s : Option SlotFiles). s)) there)
      ∙ same_places pages (first_tag_of of.item) (places_in slot) (layout.tags number) of.is.places (laid.tags number of.item of.there))
      (λ none.
      ap places_in (ap (option_and_then (λ (s : Option SlotFiles). s)) none.1)
      ∙ sym (none_there number (slice_get_past layout.table.slots number (omega (arith, none.0, are.count, good.whole)))))
      (slice_get_cases slots number).1
