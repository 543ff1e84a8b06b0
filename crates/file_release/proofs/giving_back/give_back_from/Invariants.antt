use Rattle.std.proofs.Common.{take}
use Rattle.fileset_files.specs.extent_maps.Runs.{place_of}
use Rattle.file_release.specs.Releases.{GivesBack}
use Rattle.file_release.specs.Steps.{IsHomeFrom}
use Rattle.file_release.proofs.giving_back.give_back_from.Given as goal

abbrev pub invariant-loop-i : goal.invariant-loop-i
invariant-loop-i l = GivesBack (IsHomeFrom l.from (place_of (take l.i l.runs))) l.kind l.group l.initial.space l.space
