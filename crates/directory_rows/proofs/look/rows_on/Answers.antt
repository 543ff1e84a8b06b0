use Rattle.std.proofs.Common.{◌∙◌, length, sym, ap, arith}
use Rattle.directory_rows.specs.Directory.{row_pages}
use Rattle.directory_rows.proofs.Parts.{page_is, rows_at_few, rows_at_page}
use Rattle.directory_rows.proofs.look.rows_on.Goals as goal

pub returns-in-Some-clause-few : goal.returns-in-Some-clause-few
returns-in-Some-clause-few g c =
    let files = g.S.BitfileSet.files c.args.set.now in
    let pages = row_pages files c.args.dir in
    let there = sym (page_is files c.args.dir c.args.number) ∙ sym c.in-Some.ensures in
    omega (arith, c.count_rows.ensures, ap length (rows_at_page pages c.args.number c.in-Some.page.now there), rows_at_few pages c.args.number c.requires.pages)
