use Rattle.standing_laws.specs.page_ways.Frame.{frame_in}
use Rattle.domain_memory.proofs.AllTables.{all_cells, no_table}
use Rattle.domain_memory.proofs.cells.read_cells.Goals as goal

pub loop-number-init : goal.loop-number-init
loop-number-init g c =
    let pages = g.M.MetaPages.pages c.args.pages.now in
    no_table pages (frame_in c.args.frame.now) c.in_ok-cells.cells c.in_ok-cells.ensures.value (c.in_ok-cells.ensures.belong pages)

pub returns : goal.returns
returns g c = all_cells (g.M.MetaPages.pages c.args.pages.now) (frame_in c.args.frame.now) c.loop-number.number c.loop-number.cells c.loop-number-test.false c.loop-number.invariant
