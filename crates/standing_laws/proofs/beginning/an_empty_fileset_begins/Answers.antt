use Rattle.standing_laws.proofs.FilesetBegins.{empty_begins}
use Rattle.standing_laws.proofs.beginning.an_empty_fileset_begins.Goals as goal

pub returns : goal.returns
returns c = empty_begins
