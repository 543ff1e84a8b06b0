-- A short history by hand: a fileset, a sync, and another fileset.
use Rattle.std.specs.Prelude.{List, [], ◌∷◌}
use Rattle.std.specs.FinMap as map
use Rattle.fileset_model.specs.Apply.{empty_fileset}
use Rattle.fileset_model.specs.fileset_values.Orders.{Name}
use Rattle.fileset_model.specs.Filesets.{FilesetMap}
use Rattle.fileset_model.specs.fileset_values.declared.command.Actor.TheVariants.{Client}
use Rattle.fileset_model.specs.fileset_values.declared.command.Command.TheVariants.{Mkfset, Sync}
use Rattle.fileset_model.specs.fileset_values.declared.entry.Entry.{Entry}
use Rattle.fileset_model.specs.declared.fileset.Role.TheVariants.{Original}
use Rattle.fileset_model.specs.fileset_values.declared.reply.Reply.TheVariants.{Done}

-- the first client makes a fileset, syncs by call 1, and makes another one
abbrev pub two_filesets : Name → Name → List Entry
two_filesets name other =
    record { actor = Client 1; command = Mkfset name; reply = Done; stamp = 1 }
    ∷ record { actor = Client 1; command = Sync; reply = Done; stamp = 1 }
    ∷ record { actor = Client 1; command = Mkfset other; reply = Done; stamp = 2 } ∷ []

-- filesets with one more, which is empty
abbrev pub with_empty : Name → FilesetMap → FilesetMap
with_empty name all = map.insert all name (record { tree = empty_fileset 1; role = Original })
