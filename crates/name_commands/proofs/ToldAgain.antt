-- Commands that leave a domain's memory as it is, answered.
use Rattle.std.proofs.Common.{◌≡◌, ◌∷◌, List, Option, None, Some, Result, Ok, Err, refl, sym, ap, subst}
use Rattle.std.specs.FinMap as map
use Rattle.std.specs.Option.{option_map_or}
use Rattle.std.specs.Result.{IsErrAnd}
use Rattle.domain_changes.specs.fileset_model.Apply.{Changes, in_fileset, is_clone, read_only}
use Rattle.domain_changes.specs.fileset_model.Filesets.{FilesetMap}
use Rattle.domain_changes.specs.fileset_model.Paths.{first_refusal, refuse_if, target_refusal}
use Rattle.domain_changes.specs.fileset_values.declared.command.Command.{Command}
use Rattle.domain_changes.specs.fileset_values.declared.command.Place.{Place}
use Rattle.domain_changes.specs.fileset_model.declared.fileset.FilesetSlot.{FilesetSlot}
use Rattle.domain_changes.specs.fileset_model.declared.fileset.Role.{Role}
use Rattle.domain_changes.specs.fileset_model.declared.fileset.Role.TheVariants as role
use Rattle.domain_changes.specs.fileset_values.declared.reply.Refusal.{Refusal}
use Rattle.domain_changes.specs.fileset_values.declared.reply.Refusal.TheVariants.{NoFileset, ReadOnly}
use Rattle.domain_changes.specs.fileset_values.declared.reply.Reply.{Reply}
use Rattle.domain_changes.specs.legal_histories.GoingOn.{HaveNoClone}
use Rattle.domain_changes.specs.domain_memory.Memory.{StandsFor}
use Rattle.domain_changes.specs.domain_memory.Staged.{IsSettled, staged_in}
use Rattle.domain_changes.specs.domain_memory.declared.memory.DomainMemory.{DomainMemory}
use Rattle.domain_changes.proofs.OfDomainMemory.SettledKept.{settled_kept}
use Rattle.domain_state.proofs.NoClones.{have_no_clone}
use Rattle.name_commands.specs.Ending.{EndsAs, StopsAs, StopsWith}
use Rattle.name_commands.specs.Placing.{IsLost, RepliesAs}
use Rattle.name_commands.specs.declared.stop.Stop.{Stop}
use Rattle.name_commands.proofs.PlacedThere.{ends_so}

-- one that changes no fileset ends so
pub ends_told : (memory : DomainMemory) (command : Command) (r : Result Reply Stop) → IsSettled memory → (all : FilesetMap) → StandsFor memory all → Changes all command all → RepliesAs all command r → EndsAs memory all command r
ends_told memory command r settled all stands still is = ends_so memory all command r (settled_kept memory all settled stands) still is

pub none_a_clone : (memory : DomainMemory) → IsSettled memory → (all : FilesetMap) → StandsFor memory all → HaveNoClone all
none_a_clone memory settled all stands = have_no_clone (staged_in memory) all (settled_kept memory all settled stands).staged.stands.slots

-- an original may be changed
pub original_writable : (fileset : FilesetSlot) → fileset.role ≡ role.Original → read_only fileset ≡ None
original_writable fileset is = ap (λ (r : Role). refuse_if (is_clone r) ReadOnly) is

-- so what is refused on the way to a place is refused after it
pub lost_writable : (all : FilesetMap) → HaveNoClone all → (place : Place) (stop : Stop) → IsLost all place stop → (more : FilesetSlot → List (Option Refusal))
    → StopsWith (in_fileset all place.fileset (λ slot. read_only slot ∷ target_refusal slot place.path ∷ more slot)) stop
lost_writable all none place stop lost more = subst (λ (o : Option Refusal). StopsWith o stop) (sym (by_get (map.get all place.fileset) refl)) (lost more)
  where
    by_get : (o : Option FilesetSlot) → map.get all place.fileset ≡ o
        → option_map_or (λ (s : FilesetSlot). first_refusal (read_only s ∷ target_refusal s place.path ∷ more s)) o (Some NoFileset)
        ≡ option_map_or (λ (s : FilesetSlot). first_refusal (target_refusal s place.path ∷ more s)) o (Some NoFileset)
    by_get None is = refl
    by_get (Some s) is = ap (λ (o : Option Refusal). first_refusal (o ∷ target_refusal s place.path ∷ more s)) (original_writable s (none place.fileset s is))

-- a call stops it
pub replies_stopped : (all : FilesetMap) (command : Command) (r : Result Reply Stop) (stop : Stop) → IsErrAnd r (λ e. e ≡ stop) → StopsAs all command stop → RepliesAs all command r
replies_stopped all command (Ok reply) stop same stops = absurd same
replies_stopped all command (Err e) stop same stops = subst (StopsAs all command) (sym same) stops
