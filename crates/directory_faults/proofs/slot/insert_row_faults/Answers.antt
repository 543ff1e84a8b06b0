use Rattle.std.proofs.lemmas.Result.{on_ok_weaker}
use Rattle.fileset_shapes.specs.page_ways.Frame.{frame_in}
use Rattle.directory_faults.proofs.SlotFaults.{four_put}
use Rattle.directory_faults.proofs.slot.insert_row_faults.Goals as goal

pub returns : goal.returns
returns g c =
    on_ok_weaker c.insert_lost_twice.result
    (λ lost table number are_files are slot home.
    let pages = g.M.MetaPages.pages c.args.pages.now in
    let frame = frame_in c.args.frame.now in
    four_put (c.in_ok-insert_row_pages.ensures table number are_files home) (c.in_ok-insert_names_twice.ensures pages frame table number are home)
    (c.in_ok-insert_wrong_rows.ensures pages frame table number are_files are slot home) (lost pages frame table number are_files are home))
    c.insert_lost_twice.ensures
