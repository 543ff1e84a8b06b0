use Rattle.std.proofs.Common.{take}
use Rattle.extent_records.specs.Chains.{IsNone, Takes}
use Rattle.extent_records.proofs.choosing.first_taking.Given as goal

abbrev pub invariant-loop-i : goal.invariant-loop-i
invariant-loop-i l = IsNone (Takes l.page l.place) (take l.i l.records)
