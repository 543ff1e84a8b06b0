use Rattle.std.proofs.Common.{drop}
use Rattle.fileset_files.specs.extent_maps.Runs.{place_of}
use Rattle.file_release.specs.Steps.{AreUnread}
use Rattle.file_release.proofs.tail.tail_of.Given as goal

abbrev pub invariant-loop-i : goal.invariant-loop-i
invariant-loop-i l = AreUnread l.from l.frozen (place_of l.own) (place_of (drop l.i l.runs))
