use Rattle.standing_laws.proofs.FilesetBounded.{alone_bounded}
use Rattle.standing_laws.proofs.bounds.files_stand_alone_where_a_fileset_is_bounded.Goals as goal

pub returns : goal.returns
returns c = alone_bounded
