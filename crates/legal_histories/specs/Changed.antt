-- Which files and directories an entry changes, by their numbers.
use Rattle.std.specs.Prelude.{ℕ, ◌++◌, Bool, true, false, List, [], ◌∷◌, Option, Some, None, if◌then◌else◌}
use Rattle.std.specs.Option.{option_map, option_map_or, option_to_list}
use Rattle.std.specs.List.{filter_map}
use Rattle.std.specs.FinMap as map
use Rattle.fileset_model.specs.fileset_values.Orders.{Name, Path}
use Rattle.fileset_model.specs.Paths.{names_one, begins_with}
use Rattle.fileset_model.specs.Filesets.{FilesetMap}
use Rattle.legal_histories.specs.State.{Numbered}
use Rattle.fileset_model.specs.fileset_values.declared.command.Command.{Command}
use Rattle.fileset_model.specs.fileset_values.declared.command.Command.TheVariants.{Create, Mkdir, Write, Truncate, Chfile, Link, Unlink, Rmdir, Rename}
use Rattle.fileset_model.specs.fileset_values.declared.entry.Entry.{Entry}
use Rattle.fileset_model.specs.fileset_values.declared.reply.Reply.{Reply}
use Rattle.fileset_model.specs.fileset_values.declared.reply.Reply.TheVariants.{Refused}

-- the directory that has a path as its row
abbrev pub parent_of : Path → Path
parent_of [] = []
parent_of (name ∷ []) = []
parent_of (name ∷ next ∷ rest) = name ∷ parent_of (next ∷ rest)

-- what stands at a path
abbrev pub at : FilesetMap → Name → Path → List Numbered
at all name path =
    option_to_list (option_map (λ number. (name, number))
    (option_map_or (λ slot. map.get slot.tree.paths path) (map.get all name) None))

-- what stands at a path and below it
abbrev pub at_and_below : FilesetMap → Name → Path → List Numbered
at_and_below all name path =
    option_map_or
    (λ slot. filter_map (λ e. below e.0 e.1) (map.entries slot.tree.paths))
    (map.get all name) []
  where
    below : Path → ℕ → Option Numbered
    below p number = option_if (begins_with p path) (name, number)
      where
        option_if : Bool → Numbered → Option Numbered
        option_if true x = Some x
        option_if false x = None

-- what a removal at a path changes: what stood there, and the directory that had it as a row
abbrev pub removed_at : FilesetMap → Name → Path → List Numbered
removed_at all name path = at all name path ++ at all name (parent_of path)

-- the files and directories that a command touches: the one it was given, those that go, move or
-- get another path with it, and each directory whose rows change
abbrev pub changed_by : FilesetMap → Command → List Numbered
changed_by all (Create place uid gid) = at all place.fileset (parent_of place.path)
changed_by all (Mkdir place uid gid) = at all place.fileset (parent_of place.path)
changed_by all (Write place offset bytes) = at all place.fileset place.path
changed_by all (Truncate place size) = at all place.fileset place.path
changed_by all (Chfile place logged) = at all place.fileset place.path
changed_by all (Link place to) =
    at all place.fileset place.path ++ at all place.fileset (parent_of to)
changed_by all (Unlink place) = removed_at all place.fileset place.path
changed_by all (Rmdir place) = removed_at all place.fileset place.path
changed_by all (Rename place to) =
    if option_map_or (λ slot. names_one slot.tree place.path to) (map.get all place.fileset) false
    then []
    else at_and_below all place.fileset place.path ++ at all place.fileset (parent_of place.path)
    ++ removed_at all place.fileset to
changed_by all command = []

-- what an entry changes, which is nothing if its command was refused
abbrev pub changed_by_entry : FilesetMap → Entry → List Numbered
changed_by_entry all e = unless_refused e.reply
  where
    unless_refused : Reply → List Numbered
    unless_refused (Refused refusal) = []
    unless_refused reply = changed_by all e.command
