use Rattle.std.proofs.Common.{◌≡◌, length, arith, rules, vec_len}
use Rattle.fileset_shapes.specs.page_ways.Frame.{frame_in}
use Rattle.directory_faults.proofs.RowsRead.{all_pages, first_pages, next_page}
use Rattle.directory_faults.proofs.rows.push_dir_rows.Goals as goal

pub loop-page-init : goal.loop-page-init
loop-page-init g c = first_pages (g.M.MetaPages.pages c.args.pages.now) (frame_in c.args.frame.now) c.args.file.now c.args.rows.now.items

pub loop-page-preserved : goal.loop-page-preserved
loop-page-preserved g c =
    next_page (g.M.MetaPages.pages c.args.pages.now) (frame_in c.args.frame.now) c.args.file.now c.loop-page.page c.args.rows.now.items c.loop-page.rows.items c.push_rows_on.new.rows.items c.loop-page.invariant c.in_ok-push_rows_on.ensures

pub returns : goal.returns
returns g c =
    let homes = c.args.file.now.seen.homes in
    let size : vec_len homes ≡ length homes.items = search rules in
    all_pages (g.M.MetaPages.pages c.args.pages.now) (frame_in c.args.frame.now) c.args.file.now c.loop-page.page (omega (arith, size, c.len-page-end.ensures, c.loop-page-test.false)) (omega (arith, size, c.len-page-end.ensures, c.loop-page.auto.page-end))
    c.args.rows.now.items c.loop-page.rows.items c.loop-page.invariant
