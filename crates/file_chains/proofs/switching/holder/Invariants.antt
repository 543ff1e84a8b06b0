use Rattle.std.proofs.Common.{take}
use Rattle.extent_records.specs.Chains.{IsNone}
use Rattle.file_chains.specs.MapChanges.{HasPage}
use Rattle.file_chains.proofs.switching.holder.Given as goal

abbrev pub invariant-loop-i : goal.invariant-loop-i
invariant-loop-i l = IsNone (HasPage l.page) (take l.i l.records)
