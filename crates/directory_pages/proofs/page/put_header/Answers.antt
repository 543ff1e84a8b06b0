use Rattle.std.proofs.Common.{◌∙◌, [], ◌∷◌, ◌++◌, ap}
use Rattle.std.proofs.lemmas.List.{append-nil}
use Rattle.cell_records.specs.domain_base.Page.{overwritten}
use Rattle.cell_records.specs.Records.{spelled}
use Rattle.directory_pages.specs.RowPage.{header_widths}
use Rattle.directory_pages.proofs.PageParts.{spelled_header}
use Rattle.directory_pages.proofs.page.put_header.Goals as goal

pub returns-clause-value : goal.returns-clause-value
returns-clause-value c =
    let header = c.put.ensures.written ∙ (λ i. spelled header_widths (c.from.ensures i ∷ c.args.size ∷ c.args.count ∷ 0 ∷ []) ++ []) ∙ append-nil (spelled_header c.args.size c.args.count) in
    c.set.ensures.value ∙ ap (overwritten c.args.page.now 0) header
