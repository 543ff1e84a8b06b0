use Rattle.std.proofs.Common.{◌∙◌, arith, length, drop, ◌+◌}
use Rattle.directory_pages.specs.RowPage.{behind}
use Rattle.directory_rows.proofs.Parts.{count_is}
use Rattle.directory_rows.proofs.Room.{puts_row}
use Rattle.directory_rows.proofs.pages.put_row.Goals as goal

pub put_dir_page-requires-clause-place : goal.put_dir_page-requires-clause-place
put_dir_page-requires-clause-place g c = omega (arith, c.page_with_room-number.ensures.within, count_is (g.S.BitfileSet.files c.args.set.now) c.args.dir)

pub returns-clause-ok : goal.returns-clause-ok
returns-clause-ok g c =
    let name = c.args.name.now in
    let old = g.S.BitfileSet.files c.args.set.now in
    let new = g.S.BitfileSet.files c.put_dir_page.new.self in
    let copies = c.in_ok-page.ensures in
    let added = c.add_row.ensures.added (c.add_row.ensures.fits ∙ copies.room name c.requires.name c.page_with_room-number.ensures.room) in
    puts_row c.args.dir c.page_with_room-number.result old c.requires.good.directory (record { tag = c.args.tag; kind = c.args.kind; name = name }) c.in_ok-page.page c.add_row.new.page
    (drop (8 + length name) (behind c.in_ok-page.page)) new c.page_with_room-number.ensures copies added c.in_ok-put_dir_page.ensures.ok
