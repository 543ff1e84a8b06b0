use Rattle.std.proofs.Common.{◌∙◌, ap, arith}
use Rattle.std.proofs.lemmas.Result.{on_ok_weaker}
use Rattle.directory_pages.specs.Rows.{is_named}
use Rattle.directory_rows.specs.Directory.{row_pages}
use Rattle.directory_rows.proofs.Entered.{named_within}
use Rattle.directory_rows.proofs.Parts.{count_is, pages_fit}
use Rattle.directory_rows.proofs.Room.{takes_row}
use Rattle.directory_rows.proofs.pages.take_row.Goals as goal

pub put_dir_page-requires-clause-place : goal.put_dir_page-requires-clause-place
put_dir_page-requires-clause-place g c =
    let old = g.S.BitfileSet.files c.args.set.now in
    omega (arith, named_within c.args.name.now (row_pages old c.args.dir) c.args.number c.requires.there, count_is old c.args.dir)

pub put_dir_page-requires-clause-fits : goal.put_dir_page-requires-clause-fits
put_dir_page-requires-clause-fits g c =
    let old = g.S.BitfileSet.files c.args.set.now in
    omega (arith, named_within c.args.name.now (row_pages old c.args.dir) c.args.number c.requires.there, pages_fit old c.args.dir (g.met.S.BitfileSet.sound c.args.set.now c.args.dir))

pub returns-clause-ok : goal.returns-clause-ok
returns-clause-ok g c =
    let name = c.args.name.now in
    let old = g.S.BitfileSet.files c.args.set.now in
    let new = g.S.BitfileSet.files c.put_dir_page.new.self in
    let copies = c.in_ok-page.ensures in
    let removed = c.remove_row.ensures.removed (c.remove_row.ensures.named ∙ ap (is_named name) copies.rows ∙ c.requires.there) in
    on_ok_weaker c.put_dir_page.result
    (takes_row c.args.dir c.args.number old c.requires.good.directory name c.in_ok-page.page c.remove_row.new.page _ new (named_within name (row_pages old c.args.dir) c.args.number c.requires.there) copies removed) c.put_dir_page.ensures.ok

pub returns-clause-in_place : goal.returns-clause-in_place
returns-clause-in_place g c = λ writes.
    let old = g.S.BitfileSet.files c.args.set.now in
    c.put_dir_page.ensures.in_place writes (omega (arith, named_within c.args.name.now (row_pages old c.args.dir) c.args.number c.requires.there, count_is old c.args.dir))
