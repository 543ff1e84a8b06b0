use Rattle.slot_files.proofs.SaidPlaces.{HasRunsFrom}
use Rattle.slot_files.proofs.places.places_said.Given as goal

abbrev pub invariant-loop-i : goal.invariant-loop-i
invariant-loop-i l = HasRunsFrom l.runs l.i l.places.items
