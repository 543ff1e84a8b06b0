use Rattle.std.proofs.Common.{◌≡◌, ◌∙◌, ◌+◌, ◌≤◌, [], ◌∷◌, ◌++◌, length, drop, refl, sym, ap, subst, arith}
use Rattle.std.proofs.lemmas.Bool.{leb-true}
use Rattle.directory_pages.specs.declared.row.Row.{Row}
use Rattle.directory_pages.specs.Rows.{spelled_row, spelling}
use Rattle.directory_pages.specs.RowPage.{HasRows, rows_of, size_of}
use Rattle.directory_pages.proofs.Again.{row_long, rows_long}
use Rattle.directory_pages.proofs.PageParts.{behind_is, size_is}
use Rattle.directory_pages.proofs.Written.{added}
use Rattle.directory_pages.proofs.page.add_row.Goals as goal

pub put_header-requires-clause-count : goal.put_header-requires-clause-count
put_header-requires-clause-count c =
    let page = c.args.page.now in
    let rows = rows_of page in
    let room : 16 + size_of page + 8 + length c.args.name.now ≤ 8192 = leb-true (16 + size_of page + 8 + length c.args.name.now) 8192 (sym c.has_room.ensures ∙ c.if-not-has_room.false) in
    omega (arith, room, size_is page rows c.requires.page, rows_long rows, c.count_rows-count.ensures)

pub returns-clause-added : goal.returns-clause-added
returns-clause-added c always =
    let page = c.args.page.now in
    let name = c.args.name.now in
    let rows = rows_of page in
    let row : Row = record { tag = c.args.tag; kind = c.args.kind; name = name } in
    let is = c.requires.page in
    let at = 16 + c.rows_size-size.result in
    let size = c.rows_size-size.result + 8 + length name in
    let count = c.count_rows-count.result + 1 in
    let long = row_long row in
    let used = c.rows_size-size.ensures.size ∙ size_is page rows is in
    let room : 16 + size_of page + 8 + length name ≤ 8192 = leb-true (16 + size_of page + 8 + length name) 8192 (sym c.has_room.ensures ∙ c.if-not-has_room.false) in
    let start : at ≡ 16 + length (spelling rows) = omega (arith, used) in
    let within : at + length (spelled_row row) ≤ 8192 = omega (arith, room, long, c.rows_size-size.ensures.size) in
    let sized : size ≡ length (spelling rows) + length (spelled_row row) = omega (arith, used, long) in
    let counted : count ≡ length rows + 1 = ap (λ n. n + 1) c.count_rows-count.ensures in
    let done = added page rows is row c.put_row.new.page c.put_header.new.page at size count start within c.put_row.ensures.value sized counted c.put_header.ensures.value c.put_header.ensures.len
    (record { slot = c.put_row.ensures.slot; seq = c.put_row.ensures.seq; named = c.requires.name }) in
    subst (λ bs. HasRows (rows ++ row ∷ []) bs c.put_header.new.page) (λ i. drop (long i) (sym (behind_is page rows is) i)) done

pub returns-clause-page : goal.returns-clause-page
returns-clause-page c = (returns-clause-added c refl).good
