use Rattle.std.proofs.Common.{[], ◌∷◌}
use Rattle.fileset_files.specs.extent_maps.Runs.{place_of}
use Rattle.file_release.specs.Releases.{GivesBack}
use Rattle.file_release.specs.Steps.{IsHomeWithin}
use Rattle.file_release.proofs.giving_back.give_back_homes.Given as goal

abbrev pub invariant-loop-page : goal.invariant-loop-page
invariant-loop-page l = GivesBack (IsHomeWithin l.begin l.page (place_of (l.run ∷ []))) l.kind l.group l.initial.space l.space
