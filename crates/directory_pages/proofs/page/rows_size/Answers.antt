use Rattle.std.proofs.Common.{◌∙◌, ◌≤◌, ap, subst, sym}
use Rattle.cell_records.specs.Fields.{number_at}
use Rattle.directory_pages.specs.RowPage.{rows_of}
use Rattle.directory_pages.proofs.PageParts.{size_is, small}
use Rattle.directory_pages.proofs.page.rows_size.Goals as goal

pub returns-clause-small : goal.returns-clause-small
returns-clause-small c =
    let page = c.args.page.now in
    let size = c.from.ensures ∙ c.u16_at.ensures ∙ ap (number_at 2 4) c.bytes.ensures.value ∙ size_is page (rows_of page) c.requires in
    subst (λ n. n ≤ 8176) (sym size) (small page (rows_of page) c.requires)
