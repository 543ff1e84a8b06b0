use Rattle.std.proofs.Common.{◌∙◌, drop, sym, ap}
use Rattle.cell_records.specs.Fields.{number_at}
use Rattle.directory_pages.proofs.Again.{count_is}
use Rattle.directory_pages.proofs.page.count_rows.Goals as goal

pub returns : goal.returns
returns c =
    let page = c.args.page.now in
    c.from.ensures ∙ c.u16_at.ensures ∙ ap (number_at 2 6) c.bytes.ensures.value ∙ sym (count_is (number_at 2 6 page) (drop 16 page))
