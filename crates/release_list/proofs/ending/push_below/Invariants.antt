use Rattle.std.proofs.Common.{◌≡◌, ◌++◌, take}
use Rattle.file_release.specs.file_chains.Changes.{below}
use Rattle.release_list.proofs.ending.push_below.Given as goal

abbrev pub invariant-loop-value : goal.invariant-loop-value
invariant-loop-value l = l.found.items ≡ l.fn.found.items ++ below 6 (take l.value-index l.records)
