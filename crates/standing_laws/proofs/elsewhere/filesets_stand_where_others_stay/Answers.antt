use Rattle.standing_laws.proofs.FilesetPut.{fileset_put}
use Rattle.standing_laws.proofs.elsewhere.filesets_stand_where_others_stay.Goals as goal

pub returns : goal.returns
returns c = fileset_put
