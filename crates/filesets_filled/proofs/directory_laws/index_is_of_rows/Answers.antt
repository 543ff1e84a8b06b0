use Rattle.filesets_filled.proofs.Indexes.{indexes}
use Rattle.filesets_filled.proofs.directory_laws.index_is_of_rows.Goals as goal

pub returns : goal.returns
returns c = λ pages frame table number files shown dir good none each shows index. indexes pages frame table number files shown dir good none each shows index
