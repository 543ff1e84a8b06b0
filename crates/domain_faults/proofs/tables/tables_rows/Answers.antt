use Rattle.std.proofs.Common.{◌⊎◌, arith}
use Rattle.slot_files.specs.domain_layout.Faults.{IsTablesFault}
use Rattle.slot_files.specs.page_ways.Frame.{frame_in}
use Rattle.domain_faults.specs.Rows.{rows_there}
use Rattle.domain_faults.proofs.FaultRows.{IsNoRow, IsRowIn, early_none, early_on, rows_begin, rows_put, rows_same}
use Rattle.domain_faults.proofs.ToldFaults.{IsOfTables, tables_told}
use Rattle.domain_faults.proofs.tables.tables_rows.Goals as goal

pub returns : goal.returns
returns g c =
    let pages = g.M.MetaPages.pages c.args.pages.now in
    let frame = frame_in c.args.frame.now in
    let cells = c.in_ok-cells.cells in
    let tags = c.in_ok-tags.tags in
    let none = rows_there c.new-rows.result.items in
    let five = rows_there c.push_rows.new.rows.items in
    let six = rows_there c.push_rows-2.new.rows.items in
    let first = rows_put 5 cells c.in_ok-push_rows.ensures.rising c.in_ok-push_rows.ensures.numbered IsNoRow none five (rows_begin c.new-rows.result.items c.new-rows.ensures.items) (early_none 5) c.in_ok-push_rows.ensures.rows in
    let second = rows_put 6 tags c.in_ok-push_rows-2.ensures.rising c.in_ok-push_rows-2.ensures.numbered (λ row. IsNoRow row ⊎ IsRowIn 5 cells row) five six first (early_on 5 6 cells IsNoRow (early_none 5) (omega arith)) c.in_ok-push_rows-2.ensures.rows in
    rows_same (IsOfTables cells tags) (IsTablesFault pages frame) six (tables_told pages frame c.args.table.now c.requires cells tags c.in_ok-cells.ensures c.in_ok-tags.ensures) second
