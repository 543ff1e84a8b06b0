use Rattle.std.proofs.Common.{◌∙◌, sym}
use Rattle.directory_rows.specs.Directory.{row_pages}
use Rattle.directory_rows.proofs.Looking.{found_first, none_all}
use Rattle.directory_rows.proofs.look.find_row.Goals as goal

pub returns-in_err-place : goal.returns-in_err-place
returns-in_err-place g c =
    let pages = row_pages (g.S.BitfileSet.files c.args.set.now) c.args.dir in
    c.from_residual.ensures ∙ sym (none_all c.args.name.now pages c.in_err-place.ensures)

pub returns : goal.returns
returns g c =
    let pages = row_pages (g.S.BitfileSet.files c.args.set.now) c.args.dir in
    let place = c.in_ok-place.place in
    sym (found_first c.args.name.now pages place.page (place.tag, place.kind) c.in_ok-place.ensures.before c.in_ok-place.ensures.here)
