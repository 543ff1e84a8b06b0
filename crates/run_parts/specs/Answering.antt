-- The commands of a script, and the histories that have them.
use Rattle.std.specs.Prelude.{◌≡◌, ℕ, ◌==◌, if◌then◌else◌, List, [], map, filter}
use Rattle.std.specs.List.{flat_map}
use Rattle.std.specs.Option.{option_map_or}
use Rattle.domain_faults.specs.fileset_values.declared.command.Actor.{Actor}
use Rattle.domain_faults.specs.fileset_values.declared.command.Actor.TheVariants.{Client, Mover}
use Rattle.domain_faults.specs.fileset_values.declared.command.Command.{Command}
use Rattle.domain_faults.specs.fileset_values.declared.entry.Entry.{Entry}
use Rattle.script_text.specs.Turns.{turn_of, turns_of}
use Rattle.script_text.specs.declared.script.Script.{Script}
use Rattle.script_text.specs.declared.script.Section.{Section}

-- the commands that a script gives to an actor
abbrev pub section_of : Script → Actor → List Command
section_of script (Client number) =
    flat_map
    (λ section. if number == section.number then section.commands else [])
    script.clients
section_of script Mover = option_map_or (λ section. section.commands) script.mover []

-- for each client, the same sections in the same order
abbrev pub SameByNumber : List Section → List Section → Type 0
SameByNumber sections others =
    (n : ℕ)
    → filter (λ section. n == section.number) others
    ≡ filter (λ section. n == section.number) sections

-- a history has the commands of a script's client sections, one section after another
pub record AnswersScript (script : Script) (history : List Entry) : Type 0 where
  pub sections : List Section
  pub same : SameByNumber script.clients sections
  pub turns_are : map turn_of history ≡ flat_map turns_of sections
