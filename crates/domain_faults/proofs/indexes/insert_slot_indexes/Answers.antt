use Rattle.std.proofs.Common.{sym, subst}
use Rattle.slot_files.specs.page_ways.Frame.{frame_in}
use Rattle.slot_files.specs.directory_faults.Rows.{AreRowsIn}
use Rattle.slot_files.specs.directory_faults.There.{AreFilesIn}
use Rattle.slot_files.proofs.OfFilesetShapes.Answered.{on_ok}
use Rattle.slot_files.specs.index_row_faults.There.{AreIndexesIn}
use Rattle.slot_files.proofs.Indexed.{files_whole}
use Rattle.domain_faults.proofs.indexes.insert_slot_indexes.Goals as goal

pub read_slot_indexes-requires : goal.read_slot_indexes-requires
read_slot_indexes-requires g c =
    let pages = g.M.MetaPages.pages c.args.pages.now in
    let frame = frame_in c.args.frame.now in
    let tables = c.args.tables.now in
    files_whole pages frame tables c.requires.tables c.requires.no_fault c.args.number c.deref-2.result.now (subst (AreFilesIn pages frame tables.filesets c.args.number) (sym c.deref-2.ensures.value) c.in_ok-files.ensures)

pub returns : goal.returns
returns g c =
    let pages = g.M.MetaPages.pages c.args.pages.now in
    let frame = frame_in c.args.frame.now in
    let table = c.args.tables.now.filesets in
    let number = c.args.number in
    let are = c.in_ok-files.ensures in
    let rows = c.in_ok-rows.ensures table number (subst (AreFilesIn pages frame table number) (sym c.deref.ensures.value) are) in
    let indexes = c.in_ok-indexes.ensures frame table number (subst (AreFilesIn pages frame table number) (sym c.deref-2.ensures.value) are) in
    on_ok c.insert_wrong_indexes.result _ _
    (λ put home. put table number c.in_ok-files.files.items are (subst (AreRowsIn pages frame table number) (sym c.deref-3.ensures.value) rows) (subst (AreIndexesIn pages table number) (sym c.deref-4.ensures.value) indexes) home)
    c.insert_wrong_indexes.ensures
