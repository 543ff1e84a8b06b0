use Rattle.cell_records.proofs.WholeRecord.{one_spelling}
use Rattle.cell_records.proofs.one_spelling.Goals as goal

pub returns : goal.returns
returns c = one_spelling
