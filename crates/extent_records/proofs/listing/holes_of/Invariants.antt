use Rattle.std.proofs.Common.{◌≡◌, take}
use Rattle.extent_records.specs.Listing.{holes_in}
use Rattle.extent_records.proofs.listing.holes_of.Given as goal

abbrev pub invariant-loop-run : goal.invariant-loop-run
invariant-loop-run l = l.holes.items ≡ holes_in (take l.run-index l.runs)
