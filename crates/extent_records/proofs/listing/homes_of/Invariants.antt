use Rattle.std.proofs.Common.{◌≡◌, take}
use Rattle.extent_records.specs.Listing.{AllHomes, homes_in}
use Rattle.extent_records.proofs.listing.homes_of.Given as goal

abbrev pub invariant-loop-run : goal.invariant-loop-run
invariant-loop-run l = record {
  list : l.homes.items ≡ homes_in (take l.run-index l.runs);
  homes : AllHomes l.homes.items;
}
