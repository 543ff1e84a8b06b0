use Rattle.std.proofs.Common.{◌≡◌, ◌∙◌, ◌+◌, ◌-◌, ◌++◌, length, refl, sym, ap, subst, arith}
use Rattle.cell_records.specs.domain_base.Page.{zero_bytes}
use Rattle.directory_pages.specs.Rows.{spelling}
use Rattle.directory_pages.specs.RowPage.{HasRows, behind, rows_of}
use Rattle.directory_pages.proofs.PageParts.{behind_is, few, size_is}
use Rattle.directory_pages.proofs.Places.{place_long, place_named, place_within, some_row, without_place}
use Rattle.directory_pages.proofs.Written.{removed}
use Rattle.directory_pages.proofs.page.remove_row.Goals as goal

pub close_gap-requires-clause-gap : goal.close_gap-requires-clause-gap
close_gap-requires-clause-gap c =
    let page = c.args.page.now in
    let within = place_within c.args.name.now (rows_of page) c.in-Some.place.start c.in-Some.place.size c.in-Some.ensures.some in
    omega (arith, within, c.rows_size-size.ensures.size ∙ size_is page (rows_of page) c.requires)

pub overflow_sub-size : goal.overflow_sub-size
overflow_sub-size c =
    let page = c.args.page.now in
    let at = c.in-Some.ensures.some in
    let within = place_within c.args.name.now (rows_of page) c.in-Some.place.start c.in-Some.place.size at in
    omega (arith, within, at.starts, c.rows_size-size.ensures.size ∙ size_is page (rows_of page) c.requires)

pub overflow_sub-count : goal.overflow_sub-count
overflow_sub-count c =
    omega (arith, some_row c.args.name.now (rows_of c.args.page.now) c.in-Some.place.start c.in-Some.place.size c.in-Some.ensures.some, c.count_rows-count.ensures)

pub put_header-requires-clause-count : goal.put_header-requires-clause-count
put_header-requires-clause-count c = omega (arith, few c.args.page.now (rows_of c.args.page.now) c.requires, c.count_rows-count.ensures)

pub returns-clause-named : goal.returns-clause-named
returns-clause-named c = sym (place_named c.args.name.now (rows_of c.args.page.now) c.in-Some.place.start c.in-Some.place.size c.in-Some.ensures.some)

pub returns-clause-removed : goal.returns-clause-removed
returns-clause-removed c always =
    let page = c.args.page.now in
    let name = c.args.name.now in
    let rows = rows_of page in
    let is = c.requires in
    let at = c.in-Some.ensures.some in
    let start = c.in-Some.place.start in
    let len = c.in-Some.place.size in
    let used = c.rows_size-size.ensures.size ∙ size_is page rows is in
    let within = place_within name rows start len at in
    let one = some_row name rows start len at in
    let sized : c.rows_size-size.result - len + len ≡ length (spelling rows) = omega (arith, within, at.starts, used) in
    let counted : c.count_rows-count.result - 1 + 1 ≡ length rows = omega (arith, one, c.count_rows-count.ensures) in
    let done = removed page rows at.front at.row at.back is at.parts c.close_gap.new.page c.put_header.new.page start len (16 + c.rows_size-size.result) (c.rows_size-size.result - len) (c.count_rows-count.result - 1)
    at.starts at.sized (ap (λ n. 16 + n) used) c.close_gap.ensures sized counted c.put_header.ensures.value c.put_header.ensures.len in
    subst (λ left. HasRows left (zero_bytes (8 + length name) ++ behind page) c.put_header.new.page) (sym (without_place name rows start len at))
    (subst (λ bs. HasRows (at.front ++ at.back) bs c.put_header.new.page) (λ i. zero_bytes (place_long name rows start len at i) ++ sym (behind_is page rows is) i) done)

pub returns-clause-page : goal.returns-clause-page
returns-clause-page c = (returns-clause-removed c refl).good
