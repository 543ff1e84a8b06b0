use Rattle.std.proofs.Common.{◌∙◌, Some, length, refl, ap}
use Rattle.std.proofs.lemmas.Option.{slice_get_read}
use Rattle.fileset_shapes.specs.page_ways.Frame.{frame_in}
use Rattle.fileset_shapes.proofs.Answered.{on_ok}
use Rattle.directory_faults.specs.Rows.{Adds, IsRowAt, IsRowOn}
use Rattle.directory_faults.proofs.RowsRead.{no_home, on_page, page_at}
use Rattle.directory_faults.proofs.rows.push_rows_on.Goals as goal

pub returns-in-Some : goal.returns-in-Some
returns-in-Some g c =
    let pages = g.M.MetaPages.pages c.args.pages.now in
    let frame = frame_in c.args.frame.now in
    let file = c.args.file.now in
    let homes = file.seen.homes.items in
    let page = c.args.page in
    let home = c.in-Some.home in
    let old = c.args.rows.now.items in
    let new = c.push_rows_at.new.rows.items in
    on_ok c.push_rows_at.result (Adds (IsRowAt pages frame (page_at pages frame file page home)) old new) (Adds (IsRowOn pages frame file page) old new)
    (on_page pages frame file page home (slice_get_read homes (length homes) page c.index.result.now refl c.requires c.index.ensures ∙ ap Some c.in-Some.is) old new) c.push_rows_at.ensures

pub returns-in-None : goal.returns-in-None
returns-in-None g c =
    let homes = c.args.file.now.seen.homes.items in
    no_home (g.M.MetaPages.pages c.args.pages.now) (frame_in c.args.frame.now) c.args.file.now c.args.page (slice_get_read homes (length homes) c.args.page c.index.result.now refl c.requires c.index.ensures ∙ ap Some c.in-None.is) c.args.rows.now.items
