use Rattle.std.proofs.Common.{◌∙◌, sym}
use Rattle.directory_rows.specs.Directory.{row_pages}
use Rattle.directory_rows.proofs.Parts.{if_ok_weaker, page_is}
use Rattle.directory_rows.proofs.Room.{copy_none}
use Rattle.directory_rows.proofs.pages.page_copy.Goals as goal

pub returns-in-None : goal.returns-in-None
returns-in-None g c =
    let files = g.S.BitfileSet.files c.args.set.now in
    let missing = sym (page_is files c.args.dir c.args.number) ∙ sym c.in-None.ensures in
    if_ok_weaker c.empty_page.result (λ page has. copy_none c.args.number (row_pages files c.args.dir) page missing has) c.empty_page.ensures
