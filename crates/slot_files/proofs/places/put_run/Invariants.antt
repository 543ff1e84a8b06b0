use Rattle.std.proofs.Common.{◌≡◌, ◌-◌, ◌<◌, ℕ, cond, length}
use Rattle.index_row_faults.specs.extent_maps.Runs.{behind, placed}
use Rattle.slot_files.specs.Said.{first_there, place_in}
use Rattle.slot_files.proofs.SaidPlaces.{has_up_to}
use Rattle.slot_files.proofs.places.put_run.Given as goal

abbrev pub invariant-loop-behind : goal.invariant-loop-behind
invariant-loop-behind l =
    (length l.places.items ≡ length l.initial.places.items)
    × ((page : ℕ) → page < length l.initial.places.items
    → place_in l.places.items page ≡ cond (has_up_to l.run.page l.behind page) (placed (behind (page - l.run.page) (first_there l.run.first))) (place_in l.initial.places.items page))
