use Rattle.std.proofs.Common.{[], refl}
use Rattle.file_tables.proofs.chain.use_cells.Goals as goal

pub take_cell-requires : goal.take_cell-requires
take_cell-requires c = c.loop.invariant.allocated

pub loop-preserved : goal.loop-preserved
loop-preserved c = record { allocated = c.take_cell.ensures.allocated; chain = []; is = refl; on_tables = tt }
