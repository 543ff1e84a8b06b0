use Rattle.filesets_filled.proofs.RowRules.{are_rows}
use Rattle.filesets_filled.proofs.directory_laws.rows_are_a_filesets.Goals as goal

pub returns : goal.returns
returns c = λ pages frame table number files shown dirs good shows lists indexes. are_rows pages frame table number files shown dirs good shows lists indexes
