use Rattle.standing_laws.proofs.FilesetGoes.{books_went}
use Rattle.standing_laws.proofs.going.books_stay_where_a_fileset_begins_to_go.Goals as goal

pub returns : goal.returns
returns c = books_went
