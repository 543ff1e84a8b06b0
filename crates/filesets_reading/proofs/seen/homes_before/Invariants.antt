use Rattle.domain_layout.specs.extent_maps.Runs.{place_of}
use Rattle.filesets_reading.proofs.Originals.{ListsUpTo}
use Rattle.filesets_reading.proofs.seen.homes_before.Given as goal

abbrev pub invariant-loop-page : goal.invariant-loop-page
invariant-loop-page l = ListsUpTo (place_of l.map) l.homes.items l.page
