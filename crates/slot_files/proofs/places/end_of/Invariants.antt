use Rattle.std.proofs.Common.{◌≡◌, ◌≤◌, ℕ, take}
use Rattle.index_row_faults.specs.extent_maps.Runs.{place_of}
use Rattle.index_row_faults.specs.extent_maps.declared.run.PagePlace.TheVariants.{Absent}
use Rattle.slot_files.specs.Said.{runs_there}
use Rattle.slot_files.proofs.places.end_of.Given as goal

abbrev pub invariant-loop-run : goal.invariant-loop-run
invariant-loop-run l = (page : ℕ) → l.end ≤ page → place_of (runs_there (take l.run-index l.runs)) page ≡ Absent
