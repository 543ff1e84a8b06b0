use Rattle.std.proofs.Common.{◌≡◌, ◌++◌, take}
use Rattle.file_chains.specs.Changes.{below}
use Rattle.file_chains.proofs.changing.push_below.Given as goal

abbrev pub invariant-loop-value : goal.invariant-loop-value
invariant-loop-value l = l.found.items ≡ l.fn.found.items ++ below l.kind (take l.value-index l.records)
