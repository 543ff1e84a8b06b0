use Rattle.domain_layout.proofs.CellsAlike.{same_cells_faults}
use Rattle.domain_layout.proofs.cells.cells_faults_agree.Goals as goal

pub returns : goal.returns
returns c = λ one other frame table home agree. same_cells_faults one other frame table home agree
