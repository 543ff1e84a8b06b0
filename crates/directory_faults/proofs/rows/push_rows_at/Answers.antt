use Rattle.std.proofs.Common.{◌∙◌, sym, ap}
use Rattle.std.specs.Option.{option_copied}
use mathlib.Core.Bool.{false≢true}
use Rattle.fileset_shapes.specs.directory_pages.RowPage.{rows_of}
use Rattle.fileset_shapes.specs.page_ways.Frame.{frame_in}
use Rattle.directory_faults.proofs.RowsRead.{bad_page, outside, page_added}
use Rattle.directory_faults.proofs.rows.push_rows_at.Goals as goal

pub returns-then-not-is_within : goal.returns-then-not-is_within
returns-then-not-is_within g c =
    outside (g.M.MetaPages.pages c.args.pages.now) (frame_in c.args.frame.now) c.args.at.now (λ within. false≢true (sym c.if-not-is_within.true ∙ c.is_within.ensures.1 within)) c.args.rows.now.items

pub returns-in_ok-push_page_rows : goal.returns-in_ok-push_page_rows
returns-in_ok-push_page_rows g c =
    page_added (g.M.MetaPages.pages c.args.pages.now) (frame_in c.args.frame.now) c.args.at.now (c.is_within.ensures.0 c.if-not-is_within.false) c.in-Some.page.now (sym c.get.ensures ∙ ap option_copied c.in-Some.is)
    (c.is_row_page.ensures.good c.if-is_row_page.true) c.args.rows.now.items c.push_page_rows.new.rows.items c.in_ok-push_page_rows.ensures

pub returns-else-is_row_page : goal.returns-else-is_row_page
returns-else-is_row_page g c =
    bad_page (g.M.MetaPages.pages c.args.pages.now) (frame_in c.args.frame.now) c.args.at.now (c.is_within.ensures.0 c.if-not-is_within.false) c.in-Some.page.now (sym c.get.ensures ∙ ap option_copied c.in-Some.is)
    (c.is_row_page.ensures.bad c.if-is_row_page.false (rows_of c.in-Some.page.now)) c.args.rows.now.items
