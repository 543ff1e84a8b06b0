use Rattle.standing_laws.proofs.FilesetGoes.{went}
use Rattle.standing_laws.proofs.going.all_stands_on_where_a_fileset_begins_to_go.Goals as goal

pub returns : goal.returns
returns c = went
