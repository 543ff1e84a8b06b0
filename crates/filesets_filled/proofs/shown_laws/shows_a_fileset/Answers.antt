use Rattle.filesets_filled.proofs.Shown.{shows_a_fileset}
use Rattle.filesets_filled.proofs.shown_laws.shows_a_fileset.Goals as goal

pub returns : goal.returns
returns c = shows_a_fileset
