-- Who gives which command.
use Rattle.std.specs.Prelude.{List, map}
use Rattle.command_text.specs.fileset_values.declared.command.Actor.{Actor}
use Rattle.command_text.specs.fileset_values.declared.command.Actor.TheVariants.{Client}
use Rattle.command_text.specs.fileset_values.declared.command.Command.{Command}
use Rattle.command_text.specs.fileset_values.declared.entry.Entry.{Entry}
use Rattle.script_text.specs.declared.script.Section.{Section}

-- who gives a command, and the command
abbrev pub Turn : Type 0
Turn = Actor × Command

-- who gives the command of an entry, and the command
abbrev pub turn_of : Entry → Turn
turn_of e = (e.actor, e.command)

-- the commands of a client's section, in order
abbrev pub turns_of : Section → List Turn
turns_of section = map (λ command. (Client section.number, command)) section.commands
