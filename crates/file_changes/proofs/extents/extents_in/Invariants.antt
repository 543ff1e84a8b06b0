use Rattle.std.proofs.Common.{◌≡◌, take}
use Rattle.std.specs.List.{filter_map}
use Rattle.file_changes.specs.Extents.{extent_of}
use Rattle.file_changes.proofs.extents.extents_in.Given as goal

abbrev pub invariant-loop-run : goal.invariant-loop-run
invariant-loop-run l = l.extents.items ≡ filter_map (extent_of l.keep) (take l.run-index l.runs)
