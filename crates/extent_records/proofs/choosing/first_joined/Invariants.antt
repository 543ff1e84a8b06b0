use Rattle.std.proofs.Common.{take}
use Rattle.cell_records.specs.declared.record.Record.{Record}
use Rattle.extent_records.specs.Chains.{IsNone, Joins, Takes}
use Rattle.extent_records.proofs.choosing.first_joined.Given as goal

abbrev pub invariant-loop-i : goal.invariant-loop-i
invariant-loop-i l = IsNone (λ (r : Record). Takes l.page l.place r × Joins l.page l.place r) (take l.i l.records)
