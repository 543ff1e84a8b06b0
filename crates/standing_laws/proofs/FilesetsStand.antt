-- The filesets for which a domain stands after a call on a tag.
use Rattle.std.proofs.Common.{◌≡◌, ◌∙◌, ℕ, IfSome, refl, sym, ap, subst, slice_get}
use Rattle.std.specs.FinMap.{insert}
use Rattle.domain_standing.specs.domain_base.declared.place.Tag.{Tag}
use Rattle.domain_standing.specs.fileset_files.Files.{Chains}
use Rattle.domain_standing.specs.fileset_model.Filesets.{FilesetMap}
use Rattle.domain_standing.specs.fileset_model.declared.fileset.FilesetSlot.{FilesetSlot}
use Rattle.domain_standing.specs.fileset_table.Table.{Table, entry_of}
use Rattle.domain_standing.specs.fileset_table.declared.slot.FilesetEntry.{FilesetEntry}
use Rattle.domain_standing.specs.fileset_table.declared.slot.SlotItem.{SlotItem}
use Rattle.domain_standing.specs.fileset_table.declared.slot.SlotItem.TheVariants as slot
use Rattle.domain_standing.specs.release_list.Standing.{Files}
use Rattle.domain_standing.proofs.OfReleaseList.Spread.{some_same}
use Rattle.domain_standing.specs.domain_layout.Shape.{FilesetShape}
use Rattle.domain_standing.specs.Chains.{IndexesAt}
use Rattle.domain_standing.specs.Domain.{DomainNow}
use Rattle.domain_standing.specs.Slots.{StandSlots}
use Rattle.standing_laws.specs.Leads.{LeadsOn, StandsBelow}
use Rattle.standing_laws.specs.Slots.{AgreeOnOthers, StandsSlot}
use Rattle.standing_laws.specs.SlotsStay.{PutsFileset}
use Rattle.standing_laws.proofs.FilesetPut.{slots_put}
use Rattle.standing_laws.proofs.OtherSlots.{slot_stays}
use Rattle.standing_laws.proofs.TablesStand.{tables_stand}

module _ (number : ℕ) (tag : Tag) (d now : DomainNow) (chains chains_now : Chains) (files files_now : Files) (indexes : IndexesAt) (below : StandsBelow d files indexes) (s : LeadsOn number tag d now chains chains_now files files_now) where
  puts : PutsFileset number s.entry d now
  puts = record {
    has = ap (λ (t : Table). slice_get t.slots number) s.table ∙ s.original;
    had = λ item at. subst (λ (x : SlotItem). IfSome (entry_of x) (λ (was : FilesetEntry). was.name ≡ s.entry.name)) (some_same (slot.Original s.entry) item (sym s.original ∙ at)) refl;
    others = λ other differ. ap (λ (t : Table). slice_get t.slots other) s.table;
  }

  module _ (all : FilesetMap) (slots : StandSlots d all) (agree : AgreeOnOthers number d now slots.shapes) (shape : FilesetShape) (fileset : FilesetSlot) (own : StandsSlot now number s.entry shape fileset) where
    pub slots_stand : StandSlots now (insert all s.entry.name fileset)
    slots_stand =
        slots_put number s.entry d now (tables_stand number tag d now chains chains_now files files_now indexes below s) puts all slots
        (λ other its sh f differ at shaped stood. slot_stays number tag d now chains chains_now files files_now indexes below s other its sh f differ at stood (agree other its sh differ at shaped)) shape fileset own
