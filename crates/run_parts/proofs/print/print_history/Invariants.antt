use Rattle.std.proofs.Common.{take, ◌≤◌}
use Rattle.script_text.specs.History.{history_text}
use Rattle.run_parts.specs.Transfer.{HandsOn}
use Rattle.run_parts.proofs.print.print_history.Given as goal

-- the lines so far are handed on
abbrev pub invariant-loop-entry : goal.invariant-loop-entry
invariant-loop-entry g l = record {
  handed : HandsOn (g.K.Sink.held l.initial.sink) (g.K.Sink.held l.sink) (history_text (take l.entry-index l.history)) l.buffer.items;
  count : g.K.Sink.faults l.initial.sink ≤ g.K.Sink.faults l.sink;
}
