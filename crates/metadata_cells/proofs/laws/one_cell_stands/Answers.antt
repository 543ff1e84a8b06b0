use Rattle.metadata_cells.proofs.Unique.{one_head_stands, one_stands}
use Rattle.metadata_cells.proofs.laws.one_cell_stands.Goals as goal

pub returns-clause-heads : goal.returns-clause-heads
returns-clause-heads c = λ pages at head cell has there. one_head_stands pages at head cell has there

pub returns-clause-cells : goal.returns-clause-cells
returns-clause-cells c = λ pages at a b there_a there_b. one_stands pages at a b there_a there_b
