use Rattle.std.proofs.Common.{◌≡◌, take}
use Rattle.std.specs.List.{flat_map}
use Rattle.extent_maps.specs.declared.run.PagePlace.TheVariants.{Absent}
use Rattle.extent_maps.specs.Runs.{place_of}
use Rattle.extent_records.specs.Rows.{holes_at}
use Rattle.extent_records.proofs.rows.hole_among.Given as goal

abbrev pub invariant-loop-row : goal.invariant-loop-row
invariant-loop-row l = place_of (flat_map holes_at (take l.row-index l.rows)) l.page ≡ Absent
