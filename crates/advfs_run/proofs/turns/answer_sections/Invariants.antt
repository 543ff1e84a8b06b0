use Rattle.std.proofs.Common.{◌≡◌, ◌-◌, ◌≤◌, ◌++◌, false, map, length, vec_capacity}
use Rattle.std.specs.List.{All, flat_map, sum_by}
use Rattle.domain_attaching.specs.fileset_values.declared.entry.Entry.{Entry}
use Rattle.client_commands.specs.name_commands.Ending.{IsServed}
use Rattle.domain_attaching.specs.domain_memory.Staged.{IsSettled}
use Rattle.run_parts.specs.script_text.Turns.{turn_of, turns_of}
use Rattle.run_parts.specs.script_text.declared.script.Section.{Section}
use Rattle.advfs_run.specs.Quiet.{TellNoFault}
use Rattle.advfs_run.proofs.turns.answer_sections.Given as goal

-- the sections so far are in the history, and those that are left have room in it
abbrev pub invariant-loop-section : goal.invariant-loop-section
invariant-loop-section g l = record {
  turns : map turn_of l.domain.history.entries.items ++ flat_map turns_of l.section-iterator.rest.items
      ≡ map turn_of l.fn.domain.history.entries.items ++ flat_map turns_of l.fn.sections.items;
  stamps : All (λ (e : Entry). e.stamp ≡ (g.R.Rack.disk l.fn.domain.history.rack).calls) l.fn.domain.history.entries.items
      → All (λ (e : Entry). e.stamp ≡ (g.R.Rack.disk l.fn.domain.history.rack).calls) l.domain.history.entries.items;
  quiet : TellNoFault l.fn.domain.history.entries.items → TellNoFault l.domain.history.entries.items;
  rests : l.domain.history.added ≡ false;
  settled : IsSettled l.domain.memory;
  served : All (λ (section : Section). All IsServed section.commands) l.section-iterator.rest.items;
  room : sum_by (λ (section : Section). length section.commands) l.section-iterator.rest.items
      ≤ vec_capacity l.domain.history.entries - length l.domain.history.entries.items;
  begun : l.domain.history.job ≡ l.fn.domain.history.job;
  rack : l.domain.history.rack ≡ l.fn.domain.history.rack;
  durable : l.domain.history.durable ≡ l.fn.domain.history.durable;
}
