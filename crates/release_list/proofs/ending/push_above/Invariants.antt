use Rattle.std.proofs.Common.{◌≡◌, ◌++◌, take}
use Rattle.file_release.specs.file_chains.Changes.{above}
use Rattle.release_list.proofs.ending.push_above.Given as goal

abbrev pub invariant-loop-value : goal.invariant-loop-value
invariant-loop-value l = l.found.items ≡ l.fn.found.items ++ above 6 (take l.value-index l.records)
