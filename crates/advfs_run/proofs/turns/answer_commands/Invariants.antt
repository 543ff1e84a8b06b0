use Rattle.std.proofs.Common.{◌≡◌, ◌+◌, ◌-◌, ◌≤◌, ◌++◌, false, map, length, vec_capacity}
use Rattle.std.specs.List.{All}
use Rattle.domain_attaching.specs.fileset_values.declared.command.Actor.TheVariants.{Client}
use Rattle.domain_attaching.specs.fileset_values.declared.command.Command.{Command}
use Rattle.domain_attaching.specs.fileset_values.declared.entry.Entry.{Entry}
use Rattle.client_commands.specs.name_commands.Ending.{IsServed}
use Rattle.domain_attaching.specs.domain_memory.Staged.{IsSettled}
use Rattle.run_parts.specs.script_text.Turns.{turn_of}
use Rattle.advfs_run.specs.Quiet.{TellNoFault}
use Rattle.advfs_run.proofs.turns.answer_commands.Given as goal

-- the commands so far are in the history, and those that are left have room in it
abbrev pub invariant-loop-asked : goal.invariant-loop-asked
invariant-loop-asked g l = record {
  turns : map turn_of l.domain.history.entries.items ++ map (λ (command : Command). (Client l.client, command)) l.asked-iterator.rest.items
      ≡ map turn_of l.fn.domain.history.entries.items ++ map (λ (command : Command). (Client l.client, command)) l.fn.commands.items;
  stamps : All (λ (e : Entry). e.stamp ≡ (g.R.Rack.disk l.fn.domain.history.rack).calls) l.fn.domain.history.entries.items
      → All (λ (e : Entry). e.stamp ≡ (g.R.Rack.disk l.fn.domain.history.rack).calls) l.domain.history.entries.items;
  quiet : TellNoFault l.fn.domain.history.entries.items → TellNoFault l.domain.history.entries.items;
  rests : l.domain.history.added ≡ false;
  settled : IsSettled l.domain.memory;
  served : All IsServed l.asked-iterator.rest.items;
  room : length l.asked-iterator.rest.items ≤ vec_capacity l.domain.history.entries - length l.domain.history.entries.items;
  taken : (vec_capacity l.fn.domain.history.entries - length l.fn.domain.history.entries.items) + length l.asked-iterator.rest.items
      ≤ (vec_capacity l.domain.history.entries - length l.domain.history.entries.items) + length l.fn.commands.items;
  begun : l.domain.history.job ≡ l.fn.domain.history.job;
  rack : l.domain.history.rack ≡ l.fn.domain.history.rack;
  durable : l.domain.history.durable ≡ l.fn.domain.history.durable;
}
