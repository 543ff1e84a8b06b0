use Rattle.std.proofs.Common.{◌≡◌, Option, Some, IfSome, subst}
use Rattle.free_cells.specs.domain_base.declared.place.CellAt.{CellAt}
use Rattle.free_cells.specs.page_store.Homes.{pages_of}
use Rattle.free_cells.specs.Cells.{TakesCell}
use Rattle.free_cells.proofs.Belongs.{belong_written}
use Rattle.cell_tables.proofs.free.take_and_write.Goals as goal

pub returns-clause-belong : goal.returns-clause-belong
returns-clause-belong c =
    let at = c.in_ok-at.at in
    let old = c.args.cells.now in
    let new = c.new_cell.new.self in
    let before = pages_of c.args.pages.now.entries.items in
    let write = c.in_ok-write_limits.ensures in
    let takes = subst (λ (o : Option CellAt). IfSome o (λ q. TakesCell q old new)) c.in_ok-at.ensures.ok_part c.new_cell.ensures.taken in
    belong_written old new before (pages_of c.write_limits.new.pages.entries.items) at takes write.others write.well_formed write.headers (c.new_cell.ensures.belong before c.requires)
