use Rattle.std.proofs.Common.{◌≡◌, ◌++◌, take}
use Rattle.file_chains.specs.Changes.{above}
use Rattle.file_chains.proofs.changing.push_above.Given as goal

abbrev pub invariant-loop-value : goal.invariant-loop-value
invariant-loop-value l = l.found.items ≡ l.fn.found.items ++ above l.kind (take l.value-index l.records)
