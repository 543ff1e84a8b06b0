use Rattle.standing_laws.proofs.BegunEmpty.{begun_stands}
use Rattle.standing_laws.proofs.beginning.the_fileset_that_begins_is_empty.Goals as goal

pub returns : goal.returns
returns c = begun_stands
