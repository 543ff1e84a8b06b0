-- A domain stands for the same filesets where a file goes of what is being removed from a slot.
use Rattle.std.proofs.Common.{◌≡◌, ◌∙◌, ◌==◌, ⊎_elim, ℕ, List, Some, None, eqb-true, slice_get, sym, ap, subst}
use Rattle.std.proofs.lemmas.Bool.{both_ways, cases_Bool, eq-eqb}
use Rattle.standing_laws.specs.domain_base.declared.place.Tag.{Tag}
use Rattle.standing_laws.specs.domain_base.declared.place.CellAt.{CellAt}
use Rattle.standing_laws.specs.metadata_cells.Chain.{PlacedCell}
use Rattle.standing_laws.specs.fileset_model.Filesets.{FilesetMap}
use Rattle.standing_laws.specs.fileset_table.Table.{Table}
use Rattle.standing_laws.specs.fileset_table.declared.slot.FilesetEntry.{FilesetEntry}
use Rattle.standing_laws.specs.fileset_table.declared.slot.SlotItem.{SlotItem}
use Rattle.standing_laws.specs.fileset_table.declared.slot.SlotItem.TheVariants as slot
use Rattle.standing_laws.specs.free_space.Spaces.{Spaces}
use Rattle.standing_laws.specs.domain_layout.DirectoryRules.{IsInItem}
use Rattle.standing_laws.specs.domain_layout.Seen.{SeenFile}
use Rattle.standing_laws.specs.release_list.Standing.{Files, source_at}
use Rattle.standing_laws.specs.domain_standing.Chains.{HasFilesAmong, IndexesAt, IsRemoved}
use Rattle.standing_laws.specs.domain_standing.Domain.{DomainNow, item_in}
use Rattle.standing_laws.specs.Leads.{StandsBelow}
use Rattle.standing_laws.specs.Sound.{IsSound, StandsSound}
use Rattle.standing_laws.specs.domain_standing.Sources.{StandAlone}
use Rattle.standing_laws.specs.SlotParents.{HaveParentsIn, StandsForSome}
use Rattle.standing_laws.specs.domain_standing.Standing.{HaveParents, IsMarkedBut, StandsDomain}
use Rattle.standing_laws.proofs.AllStay.{all_stay}
use Rattle.standing_laws.proofs.BitsStay.{bits_stay}
use Rattle.standing_laws.proofs.FilesetPut.{stood_in}
use Rattle.standing_laws.proofs.SlotTogether.{slot_together}
use Rattle.standing_laws.proofs.SoundParted.{sound_but}
use Rattle.standing_laws.proofs.SourcesSaid.{alone_by_files}
use Rattle.set_standing.specs.Around.{GoesOnAtSlot, IsNamedIn, StandsAtSlot}

-- what is in a slot whose tags name files, in a domain that is as rules of pages ask
pub slot_at : (number : ℕ) (d : DomainNow) (files : Files) (indexes : IndexesAt) → StandsBelow d files indexes → StandsSound d files indexes → ((at : CellAt) → source_at files at ≡ None) → HasFilesAmong d files number → StandsAtSlot number d
slot_at number d files indexes below sound alone has = record {
  files = files;
  indexes = indexes;
  below = below;
  chains = has.chains;
  well = record { well = below.chains.well; together = slot_together d files indexes below sound number has; among = has.among };
  alone = alone;
  sound = sound_but d files indexes (IsNamedIn has.chains) sound;
}

module _ (number : ℕ) (d now : DomainNow) (at : StandsAtSlot number d) (go : GoesOnAtSlot None number d now at) where
  pub alone_left : StandAlone now
  alone_left = alone_by_files now go.0.files go.0.indexes go.0.below go.0.alone

  pub sound_left : StandsSound d at.files at.indexes → IsSound now
  sound_left sound = record { files = go.0.files; indexes = go.0.indexes; below = go.0.below; sound = go.2 sound }

  pub marked_left : (space : Spaces) → IsMarkedBut (record d { space = space }) → IsMarkedBut (record now { space = space })
  marked_left = bits_stay d now at.below.tables go.1.frame (λ home member first. go.1.volumes home (member, first))

module _ (number : ℕ) (d now : DomainNow) (at : StandsAtSlot number d) (removed : IsRemoved (item_in d number)) (go : GoesOnAtSlot None number d now at) where
  -- no original is in the slot
  not_own : (n : ℕ) (entry : FilesetEntry) → item_in d n ≡ Some (slot.Original entry) → ¬ n ≡ number
  not_own n entry there same = subst IsRemoved (ap (item_in d) (sym same) ∙ there) removed

  pub stands_left : (all : FilesetMap) → StandsDomain d all → StandsDomain now all
  stands_left all stands = record {
    tables = go.0.below.tables;
    files = go.0.files;
    indexes = go.0.indexes;
    chains = go.0.below.chains;
    owned = go.0.below.owned;
    rest = go.0.below.rest;
    slots = all_stay d now all stands.slots go.1.table (λ n entry shape fileset there stood. go.1.slots n entry shape fileset (not_own n entry there) there stood);
  }

  for_some : (n : ℕ) (all : FilesetMap) → StandsDomain d all → StandsForSome n d
  for_some n all stands = record {
    no_clone = stands.slots.no_clone n;
    each = λ entry there. let it = stood_in d all stands.slots n entry there in (it.shape_was, it.fileset_was, it.stood);
  }

  -- it has no file of a fileset
  has_none : (item : SlotItem) (tag : Tag) (cells : List PlacedCell) (seen : SeenFile) → item_in d number ≡ Some item → IsInItem now.pages now.table item tag cells seen → ⊥
  has_none slot.Free tag cells seen there is = is
  has_none (slot.Original entry) tag cells seen there is = subst IsRemoved there removed
  has_none (slot.Clone of clone entry) tag cells seen there is = subst IsRemoved there removed
  has_none (slot.Removed first_tag quota) tag cells seen there is = is

  own_parents : HaveParentsIn number now
  own_parents tag cells seen has directory wrong = has_none has.item tag cells seen (ap (λ (t : Table). slice_get t.slots number) (sym go.1.table) ∙ has.there) has.is

  pub parents_left : (all : FilesetMap) → StandsDomain d all → HaveParents d → HaveParents now
  parents_left all stands parents n = ⊎_elim
      (λ same. subst (λ (k : ℕ). HaveParentsIn k now) (sym (eqb-true n number same)) own_parents)
      (λ apart. go.1.parents n (λ same. both_ways (n == number) apart (eq-eqb n number same)) (for_some n all stands) (parents n))
      (cases_Bool (n == number))
