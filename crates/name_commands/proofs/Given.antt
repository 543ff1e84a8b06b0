-- What a command knows of the original that it names, in a domain's memory with no change over it.
use Rattle.std.proofs.Common.{◌≡◌, ◌∙◌, ℕ, true, Option, Some, None, IfSome, length, slice_get, refl, sym, ap, subst}
use Rattle.std.proofs.Math.Logic.{∥∥₁_map}
use Rattle.std.specs.FinMap.{get}
use Rattle.domain_changes.specs.legal_histories.Valid.{IsValidFileset, IsValidAs}
use Rattle.domain_changes.specs.fileset_model.Filesets.{FilesetMap}
use Rattle.domain_changes.specs.fileset_values.Orders.{Name}
use Rattle.domain_changes.specs.fileset_model.declared.fileset.FilesetSlot.{FilesetSlot}
use Rattle.domain_changes.specs.fileset_model.declared.fileset.Role.{Role}
use Rattle.domain_changes.specs.fileset_model.declared.fileset.Role.TheVariants as role
use Rattle.domain_changes.specs.fileset_table.Table.{IsTable}
use Rattle.domain_changes.specs.fileset_table.declared.slot.FilesetEntry.{FilesetEntry}
use Rattle.domain_changes.specs.fileset_table.declared.slot.SlotItem.{SlotItem}
use Rattle.domain_changes.specs.fileset_table.declared.slot.SlotItem.TheVariants as slot
use Rattle.domain_changes.proofs.OfStoredSet.Stable.{one_number}
use Rattle.domain_changes.specs.domain_layout.CellRules.{of_original}
use Rattle.domain_changes.specs.domain_memory.Slots.{HasNumber, slot_in}
use Rattle.domain_changes.specs.domain_memory.declared.slots.SlotFiles.{SlotFiles}
use Rattle.domain_changes.specs.domain_memory.Memory.{StandsFor, with_was}
use Rattle.domain_changes.specs.domain_memory.Staged.{IsSettled, IsStaged, MayBeKept, MayGoBack, staged_in}
use Rattle.domain_changes.specs.domain_memory.declared.memory.DomainMemory.{DomainMemory}
use Rattle.domain_changes.proofs.OfDomainMemory.SettledKept.{settled_kept}
use Rattle.domain_changes.proofs.OfDomainMemory.TakingBack.{asks_slots}
use Rattle.domain_state.proofs.NoClones.{have_no_clone}
use Rattle.domain_changes.proofs.OfStandingLaws.FilesetPut.{stood_in}
use Rattle.name_changes.specs.Stages.{HasFileset}
use Rattle.name_commands.proofs.Begun.{table_good}
use Rattle.name_commands.proofs.Removal.{HasNamed}

-- what a call asks of the slot
pub original_of_named : (o : Option SlotItem) (name : Name) → HasNamed o name → of_original o ≡ true
original_of_named o name h = ap of_original h.has

-- that a change can be taken back is at hand if there is none
pub may_at_hand : (memory : DomainMemory) → IsSettled memory → (all : FilesetMap) → IsStaged memory all → ∥ MayGoBack memory ∥₁ → MayGoBack memory
may_at_hand memory settled all staged may = record {
  has = record {
    count = one_number (length memory.slots.items) 32 (∥∥₁_map may (λ m. m.has.count));
    numbered = λ n. by_slot n (slot_in memory.slots.items n) refl;
  };
  table = subst (λ w. IsTable (with_was w memory.table)) (sym settled.was) (table_good (staged_in memory) staged.stands.tables);
  slots = asks_slots memory may;
}
  where
    by_slot : (n : ℕ) (o : Option SlotFiles) → slot_in memory.slots.items n ≡ o → IfSome o (HasNumber n)
    by_slot n None is = tt
    by_slot n (Some held) is = one_number held.files.fileset n (∥∥₁_map may (λ m. subst (λ o. IfSome o (HasNumber n)) is (m.has.numbered n)))

-- the original of the name, and its fileset
pub record Given (memory : DomainMemory) (number : ℕ) (name : Name) (all : FilesetMap) : Type 0 where
  pub entry : FilesetEntry
  pub named : entry.name ≡ name
  pub fileset : FilesetSlot
  pub kept : MayBeKept memory all
  pub has : HasFileset memory number all entry fileset
  pub here : get all name ≡ Some fileset
  pub role : fileset.role ≡ role.Original
  pub valid : IsValidFileset fileset.tree

pub given : (memory : DomainMemory) (number : ℕ) (name : Name) → HasNamed (slice_get memory.table.slots number) name → IsSettled memory → ∥ MayGoBack memory ∥₁ → (all : FilesetMap) → StandsFor memory all → Given memory number name all
given memory number name h settled may all stands =
    let kept = settled_kept memory all settled stands in
    let stood = stood_in (staged_in memory) all kept.staged.stands.slots number h.entry h.has in
    let role : stood.fileset_was.role ≡ role.Original = have_no_clone (staged_in memory) all kept.staged.stands.slots h.entry.name stood.fileset_was stood.filled in
    record {
      entry = h.entry;
      named = h.named;
      fileset = stood.fileset_was;
      kept = kept;
      has = record {
        staged = kept.staged;
        may = may_at_hand memory settled all kept.staged may;
        original = h.has;
        there = stood.filled;
      };
      here = ap (get all) (sym h.named) ∙ stood.filled;
      role = role;
      valid = subst (λ (r : Role). IsValidAs r stood.fileset_was) role stood.stood.filled.valid;
    }
