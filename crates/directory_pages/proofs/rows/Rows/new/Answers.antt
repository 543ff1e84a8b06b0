use Rattle.std.proofs.Common.{◌∙◌, ap, drop}
use Rattle.cell_records.specs.Fields.{number_at}
use Rattle.std.proofs.lemmas.List.{take_rest}
use Rattle.directory_pages.specs.Rows.{fit_rows}
use Rattle.directory_pages.specs.RowPage.{rows_of}
use Rattle.directory_pages.proofs.PageParts.{fits}
use Rattle.directory_pages.proofs.rows.Rows.new.Goals as goal

pub invariant_of-result : goal.invariant_of-result
invariant_of-result c =
    let page = c.args.page.now in
    let bytes = c.bytes-bytes.result.now in
    let count = c.u16_at.ensures ∙ ap (number_at 2 6) c.bytes-bytes.ensures.value in
    let part = take_rest bytes 16 ∙ ap (drop 16) c.bytes-bytes.ensures.value in
    (λ i. fit_rows (count i) (part i)) ∙ fits page (rows_of page) c.requires
