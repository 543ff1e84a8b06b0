use Rattle.filesets_filled.proofs.Shown.{shows_indexes}
use Rattle.filesets_filled.proofs.shown_laws.shows_indexes.Goals as goal

pub returns : goal.returns
returns c = shows_indexes
