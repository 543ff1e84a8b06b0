-- What a change has let come free is free once the change is kept.
use Rattle.std.proofs.Common.{◌≡◌, ◌∙◌, ℕ, Bool, true, false, List, [], Option, Some, None, IsSome, is_some, slice_get, refl, sym, ap, subst, true≢false}
use Rattle.std.proofs.Math.Logic.{∥∥₁_elim}
use Rattle.std.specs.Option.{option_and_then}
use Rattle.standing_laws.specs.domain_base.declared.place.CellAt.{CellAt}
use Rattle.standing_laws.specs.domain_base.declared.place.Home.{Home}
use Rattle.standing_laws.specs.domain_base.declared.place.Tag.{Tag}
use Rattle.standing_laws.specs.page_store.Pages.{Pages}
use Rattle.standing_laws.specs.tag_dirs.Directory.{cell_of}
use Rattle.standing_laws.specs.tag_dirs.declared.dir.TagPlace.{TagPlace}
use Rattle.standing_laws.specs.free_cells.Cells.{is_free}
use Rattle.standing_laws.proofs.OfFilesetFiles.Tags.{cell_same, pages_same}
use Rattle.standing_laws.specs.free_cells.Marking.{ChangeBits}
use Rattle.standing_laws.specs.fileset_model.Filesets.{FilesetMap}
use Rattle.standing_laws.specs.fileset_table.declared.slot.SlotItem.{SlotItem}
use Rattle.standing_laws.specs.domain_layout.Layout.{AreTagPlaces, first_tag_of}
use Rattle.standing_laws.specs.domain_standing.Chains.{StandsInSlot}
use Rattle.standing_laws.specs.domain_standing.Domain.{DomainNow}
use Rattle.standing_laws.specs.domain_standing.Holders.{Holder}
use Rattle.standing_laws.specs.domain_standing.Standing.{StandsDomain}
use Rattle.staged_pages.specs.Store.{pages_of}
use Rattle.domain_memory.specs.Slots.{ChangesSlots, IsKept, places_in, slot_in}
use Rattle.domain_memory.specs.Going.{IsUsedIn, KeepsGone}
use Rattle.domain_memory.specs.Staged.{IsStagedForSome, staged_in}
use Rattle.domain_memory.specs.declared.memory.DomainMemory.{DomainMemory}
use Rattle.domain_memory.proofs.ChangeKept.{other_pages}
use Rattle.domain_memory.proofs.SlotsKept.{places_kept, places_same}

-- tags lead where they led, whatever bits of bitmaps say
module _ (d : DomainNow) (all : FilesetMap) (stands : StandsDomain d all) (pages : Pages) (change : ChangeBits d.space d.pages pages) (n : ℕ) (tag : Tag) where
  leads_still : cell_of pages (d.tags n) tag ≡ cell_of d.pages (d.tags n) tag
  leads_still = by_item (slice_get d.table.slots n) refl
    where
      nothing : d.tags n ≡ [] → cell_of pages (d.tags n) tag ≡ cell_of d.pages (d.tags n) tag
      nothing none = ap (λ (ps : List TagPlace). cell_of pages ps tag) none ∙ sym (ap (λ (ps : List TagPlace). cell_of d.pages ps tag) none)

      by_first : (o : Option Home) → AreTagPlaces d.pages o (d.tags n) → cell_of pages (d.tags n) tag ≡ cell_of d.pages (d.tags n) tag
      by_first None none = nothing none
      by_first (Some first) are =
          cell_same d.pages pages (d.tags n) are.directory
          (pages_same d.pages pages (d.tags n) (λ home has. other_pages d all stands pages change home (Holder.of_tags n) has (λ e. cc))) tag

      by_item : (o : Option SlotItem) → slice_get d.table.slots n ≡ o → cell_of pages (d.tags n) tag ≡ cell_of d.pages (d.tags n) tag
      by_item None at = nothing (subst (λ o. StandsInSlot d stands.files n (option_and_then first_tag_of o)) at (stands.chains.slots n))
      by_item (Some item) at = by_first (first_tag_of item) (stands.tables.laid.tags n item at)

module _ (old new : DomainMemory) (marks : Pages) (staged : ∥ IsStagedForSome old ∥₁) (change : ChangeBits old.space (pages_of old.pages) marks) (pages : pages_of new.pages ≡ marks) (slots : ChangesSlots IsKept old.slots.items new.slots.items) where
  used_was : (number : ℕ) (tag : Tag) → IsUsedIn new number tag → IsUsedIn old number tag
  used_was number tag used = by_test (is_some (cell_of (pages_of old.pages) (places_in (slot_in old.slots.items number)) tag)) refl
    where
      places : places_in (slot_in new.slots.items number) ≡ places_in (slot_in old.slots.items number)
      places = places_same (slot_in old.slots.items number) (slot_in new.slots.items number) (slots.each number) ∙ places_kept (slot_in old.slots.items number) (slot_in new.slots.items number) (slots.each number)

      was : IsStagedForSome old → IsUsedIn old number tag
      was s =
          subst (λ (o : Option CellAt). IsSome o) (leads_still (staged_in old) s.0 s.1.stands marks change number tag)
          (subst (λ (ps : List TagPlace). IsSome (cell_of marks ps tag)) places
          (subst (λ (p : Pages). IsSome (cell_of p (places_in (slot_in new.slots.items number)) tag)) pages used))

      by_test : (b : Bool) → is_some (cell_of (pages_of old.pages) (places_in (slot_in old.slots.items number)) tag) ≡ b → b ≡ true
      by_test true is = refl
      by_test false is = absurd (∥∥₁_elim staged (λ x y. absurd x) (λ s. true≢false (sym (was s) ∙ is)))

  pub keeps_gone : new.table ≡ old.table → ((at : CellAt) → is_free new.cells at ≡ is_free old.cells at) → KeepsGone old new
  keeps_gone table cells = record { table = table; cells = cells; used = used_was }
