use Rattle.index_row_faults.specs.extent_maps.Runs.{home_at}
use Rattle.slot_files.specs.Said.{place_in}
use Rattle.slot_files.proofs.Listed.{UpTo}
use Rattle.slot_files.proofs.SaidPlaces.{IsHomeAt}
use Rattle.slot_files.proofs.homes.homes_before.Given as goal

abbrev pub invariant-loop-page : goal.invariant-loop-page
invariant-loop-page l = UpTo (IsHomeAt (λ p. home_at (place_in l.places p))) l.homes.items l.page
