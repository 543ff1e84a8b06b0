-- The commands of each actor in a history.
use Rattle.std.specs.Prelude.{◌≡◌, ◌==◌, Bool, true, false, List, filter, map}
use Rattle.fileset_values.specs.declared.command.Actor.{Actor}
use Rattle.fileset_values.specs.declared.command.Actor.TheVariants.{Client, Mover}
use Rattle.fileset_values.specs.declared.command.Command.{Command}
use Rattle.fileset_values.specs.declared.entry.Entry.{Entry}

abbrev pub same_actor : Actor → Actor → Bool
same_actor (Client m) (Client n) = m == n
same_actor Mover Mover = true
same_actor (Client m) Mover = false
same_actor Mover (Client n) = false

-- the commands of an actor's entries, in order
abbrev pub commands_of : Actor → List Entry → List Command
commands_of actor history = map (λ e. e.command) (filter (λ e. same_actor actor e.actor) history)

-- a history has each actor's section, in its order, and nothing else
abbrev pub Shuffle : List Entry → (Actor → List Command) → Type 0
Shuffle history section = (actor : Actor) → commands_of actor history ≡ section actor
