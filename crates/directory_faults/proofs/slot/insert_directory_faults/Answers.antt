use Rattle.std.proofs.Common.{sym, subst}
use Rattle.std.proofs.lemmas.Result.{on_ok_weaker}
use Rattle.fileset_shapes.specs.page_ways.Frame.{frame_in}
use Rattle.directory_faults.specs.Rows.{AreRowsIn}
use Rattle.directory_faults.proofs.SlotFaults.{two_put}
use Rattle.directory_faults.proofs.slot.insert_directory_faults.Goals as goal

pub returns : goal.returns
returns g c =
    on_ok_weaker c.insert_file_faults.result
    (λ of_files table number are_files slot home.
    let pages = g.M.MetaPages.pages c.args.pages.now in
    let frame = frame_in c.args.frame.now in
    let are = c.in_ok-rows.ensures table number are_files in
    two_put (c.in_ok-insert_row_faults.ensures table number are_files (subst (AreRowsIn pages frame table number) (sym c.deref.ensures.value) are) slot home)
    (of_files pages frame table number are_files (subst (AreRowsIn pages frame table number) (sym c.deref-2.ensures.value) are) slot home))
    c.insert_file_faults.ensures
