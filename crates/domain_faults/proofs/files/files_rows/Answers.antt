use Rattle.std.proofs.Common.{◌⊎◌, arith}
use Rattle.slot_files.specs.page_ways.Frame.{frame_in}
use Rattle.domain_faults.specs.Rows.{rows_there}
use Rattle.slot_files.specs.domain_layout.Faults.{IsFilesFault}
use Rattle.domain_faults.proofs.FaultRows.{IsNoRow, IsRowIn, early_none, early_on, rows_begin, rows_put, rows_same}
use Rattle.domain_faults.proofs.ToldFaults.{IsOfFiles, files_told, good_cells}
use Rattle.domain_faults.proofs.files.files_rows.Goals as goal

pub returns : goal.returns
returns g c =
    let pages = g.M.MetaPages.pages c.args.pages.now in
    let frame = frame_in c.args.frame.now in
    let tables = c.in_ok-tables.tables in
    let are = c.in_ok-tables.ensures in
    let good = good_cells pages frame tables are c.requires.no_fault in
    let extents = c.in_ok-extents.extents in
    let bitmaps = c.in_ok-bitmaps.bitmaps in
    let directories = c.in_ok-directories.directories in
    let indexes = c.in_ok-indexes.indexes in
    let none = rows_there c.new-rows.result.items in
    let seven = rows_there c.push_rows.new.rows.items in
    let eight = rows_there c.push_rows-2.new.rows.items in
    let nine = rows_there c.push_rows-3.new.rows.items in
    let ten = rows_there c.push_rows-4.new.rows.items in
    let early7 = early_none 7 in
    let early8 = early_on 7 8 extents IsNoRow early7 (omega arith) in
    let early9 = early_on 8 9 bitmaps (λ row. IsNoRow row ⊎ IsRowIn 7 extents row) early8 (omega arith) in
    let early10 = early_on 9 10 directories (λ row. (IsNoRow row ⊎ IsRowIn 7 extents row) ⊎ IsRowIn 8 bitmaps row) early9 (omega arith) in
    let first = rows_put 7 extents c.in_ok-push_rows.ensures.rising c.in_ok-push_rows.ensures.numbered IsNoRow none seven (rows_begin c.new-rows.result.items c.new-rows.ensures.items) early7 c.in_ok-push_rows.ensures.rows in
    let second = rows_put 8 bitmaps c.in_ok-push_rows-2.ensures.rising c.in_ok-push_rows-2.ensures.numbered (λ row. IsNoRow row ⊎ IsRowIn 7 extents row) seven eight first early8 c.in_ok-push_rows-2.ensures.rows in
    let third = rows_put 9 directories c.in_ok-push_rows-3.ensures.rising c.in_ok-push_rows-3.ensures.numbered (λ row. (IsNoRow row ⊎ IsRowIn 7 extents row) ⊎ IsRowIn 8 bitmaps row) eight nine second early9 c.in_ok-push_rows-3.ensures.rows in
    let fourth =
    rows_put 10 indexes c.in_ok-push_rows-4.ensures.rising c.in_ok-push_rows-4.ensures.numbered (λ row. ((IsNoRow row ⊎ IsRowIn 7 extents row) ⊎ IsRowIn 8 bitmaps row) ⊎ IsRowIn 9 directories row) nine ten third early10 c.in_ok-push_rows-4.ensures.rows in
    rows_same (IsOfFiles extents bitmaps directories indexes) (IsFilesFault pages frame) ten
    (files_told pages frame tables are c.requires.no_fault extents bitmaps directories indexes (c.in_ok-extents.ensures good) (c.in_ok-bitmaps.ensures good) c.in_ok-directories.ensures c.in_ok-indexes.ensures) fourth
