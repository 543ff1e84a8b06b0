-- Commands at the root of a fileset, which stays.
use Rattle.std.specs.Prelude.{◌≡◌, Some, None, Result, Ok, Err, if◌then◌else◌}
use Rattle.std.specs.FinMap.{get}
use Rattle.std.specs.Option.{option_map}
use Rattle.domain_changes.specs.domain_base.declared.place.Kind.{Kind}
use Rattle.domain_changes.specs.domain_base.declared.place.Tag.{Tag}
use Rattle.domain_changes.specs.legal_histories.Valid.{IsValidFileset}
use Rattle.domain_changes.specs.fileset_model.Apply.{refusal_of}
use Rattle.domain_changes.specs.fileset_model.Filesets.{FilesetMap}
use Rattle.domain_changes.specs.fileset_values.Orders.{Name}
use Rattle.domain_changes.specs.fileset_model.Paths.{is_directory, node_at, target_refusal}
use Rattle.domain_changes.specs.fileset_values.declared.command.Command.{Command}
use Rattle.domain_changes.specs.fileset_values.declared.command.Place.{Place}
use Rattle.domain_changes.specs.fileset_model.declared.fileset.FilesetSlot.{FilesetSlot}
use Rattle.domain_changes.specs.fileset_model.declared.fileset.Role.TheVariants.{Original}
use Rattle.domain_changes.specs.fileset_values.declared.reply.Refusal.{Refusal}
use Rattle.domain_changes.specs.fileset_values.declared.reply.Refusal.TheVariants.{IntoItself, NoFileset, NotDirectory}
use Rattle.domain_changes.specs.legal_histories.GoingOn.{HaveNoClone}
use Rattle.domain_changes.specs.name_space.Names.{is_directory_kind}
use Rattle.name_commands.specs.Ending.{StopsAs}
use Rattle.name_commands.specs.Placing.{IsLost}
use Rattle.name_commands.specs.declared.stop.Stop.{Stop}

-- whatever an original of this name has, the command is refused so; and by no-fileset without one
pub record IsRefusedIn (name : Name) (refusal : Refusal) (command : Command) : Type 0 where
  pub there : (all : FilesetMap) (slot : FilesetSlot) → get all name ≡ Some slot
      → slot.role ≡ Original → IsValidFileset slot.tree → refusal_of all command ≡ Some refusal
  pub none : (all : FilesetMap) → get all name ≡ None → refusal_of all command ≡ Some NoFileset

-- it is refused with `of_file` if a file stands at the place, and with `of_directory` if a
-- directory does, after what the way there refuses
pub record IsRefusedOnto (place : Place) (of_file of_directory : Refusal) (command : Command)
    : Type 0 where
  pub there : (all : FilesetMap) (slot : FilesetSlot) (of : Kind)
      → get all place.fileset ≡ Some slot → slot.role ≡ Original → IsValidFileset slot.tree
      → target_refusal slot place.path ≡ None
      → option_map is_directory (node_at slot.tree place.path) ≡ Some (is_directory_kind of)
      → refusal_of all command
      ≡ Some (if is_directory_kind of then of_directory else of_file)
  pub lost : (all : FilesetMap) → HaveNoClone all → (stop : Stop) → IsLost all place stop
      → StopsAs all command stop

-- why the root does not come below a directory to whose path this leads: that is the root or below
-- it; or it is a file, or the way there refuses it
abbrev pub refused_below : Result (Tag × Kind) Refusal → Refusal
refused_below (Ok led) = if is_directory_kind led.1 then IntoItself else NotDirectory
refused_below (Err refusal) = refusal
