use Rattle.std.proofs.Common.{◌≡◌, map, take}
use Rattle.index_row_faults.specs.Totals.{key_of}
use Rattle.index_row_faults.proofs.totals.keys_in.Given as goal

abbrev pub invariant-loop-at : goal.invariant-loop-at
invariant-loop-at l = l.keys.items ≡ map key_of (take l.at-index l.entries)
