-- What is so of memory that is as it was.
use Rattle.std.proofs.Common.{◌≡◌, ℕ, List, Result, Ok, Err, IfOk, Some, sym, ap, subst}
use Rattle.domain_changes.specs.domain_base.declared.place.Kind.{Kind}
use Rattle.domain_changes.specs.domain_base.declared.place.Tag.{Tag}
use Rattle.domain_changes.specs.fileset_files.Files.{AreFiles}
use Rattle.domain_changes.specs.tag_dirs.declared.dir.TagPlace.{TagPlace}
use Rattle.domain_changes.specs.page_store.Pages.{Pages}
use Rattle.domain_changes.specs.fileset_model.Filesets.{FilesetMap}
use Rattle.domain_changes.specs.fileset_model.declared.fileset.FilesetSlot.{FilesetSlot}
use Rattle.domain_changes.specs.fileset_table.declared.slot.FilesetEntry.{FilesetEntry}
use Rattle.domain_changes.specs.fileset_table.declared.slot.SlotItem.TheVariants as slot
use Rattle.domain_changes.specs.staged_pages.Store.{pages_of}
use Rattle.domain_changes.specs.domain_standing.Domain.{DomainNow, item_in}
use Rattle.domain_changes.specs.domain_memory.Slots.{places_in, slot_in}
use Rattle.domain_changes.specs.domain_memory.Memory.{StandsFor}
use Rattle.domain_changes.specs.domain_memory.declared.memory.DomainMemory.{DomainMemory}
use Rattle.domain_changes.proofs.OfDomainMemory.KeptStands.{stands_so}
use Rattle.name_changes.specs.Looking.{IsLiveIn, IsSame}
use Rattle.name_changes.specs.Stages.{HasFileset}
use Rattle.name_changes.proofs.Same.{staged_is, still_back, still_keeps, still_staged}

pub turned : (memory now : DomainMemory) → IsSame memory now → IsSame now memory
turned memory now is = record {
  same = sym (ap (λ (m : DomainMemory). record m { slots = memory.slots; listed = memory.listed }) is.same);
  slots = sym is.slots;
  listed = sym is.listed;
}

module _ (memory now : DomainMemory) (is : IsSame memory now) where
  pub table_still : now.table ≡ memory.table
  table_still = ap (λ (m : DomainMemory). m.table) is.same

  pub stands_still : (all : FilesetMap) → StandsFor memory all → StandsFor now all
  stands_still = stands_so memory now (still_keeps memory now is)

  pub has_still : (number : ℕ) (all : FilesetMap) (entry : FilesetEntry) (fileset : FilesetSlot) → HasFileset memory number all entry fileset → HasFileset now number all entry fileset
  has_still number all entry fileset h = record {
    staged = still_staged memory now is all h.staged;
    may = still_back memory now is h.may;
    original = subst (λ (d : DomainNow). item_in d number ≡ Some (slot.Original entry)) (sym (staged_is memory now is)) h.original;
    there = h.there;
  }

  pub live_still : (number : ℕ) (tag : Tag) (of : Kind) → IsLiveIn memory number tag of → IsLiveIn now number tag of
  live_still number tag of live = λ chains are.
      live chains
      (subst (λ (ps : List TagPlace). AreFiles number ps (pages_of memory.pages) chains) (ap (λ items. places_in (slot_in items number)) is.slots)
      (subst (λ (pages : Pages). AreFiles number (places_in (slot_in now.slots.items number)) pages chains) (ap (λ (m : DomainMemory). pages_of m.pages) is.same) are))

  pub led_live : {E : Type 0} (number : ℕ) (led : Result (Tag × Kind) E) → IfOk led (λ there. IsLiveIn memory number there.0 there.1) → IfOk led (λ there. IsLiveIn now number there.0 there.1)
  led_live number (Ok there) live = live_still number there.0 there.1 live
  led_live number (Err e) live = live
