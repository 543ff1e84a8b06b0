use Rattle.std.proofs.Common.{◌∙◌, [], ◌∷◌, ◌++◌, ap}
use Rattle.std.proofs.lemmas.List.{append-nil}
use Rattle.cell_records.specs.domain_base.Page.{overwritten}
use Rattle.cell_records.specs.Records.{spelled}
use Rattle.directory_pages.specs.Index.{header}
use Rattle.directory_pages.proofs.write.put_header.Goals as goal

pub returns-clause-value : goal.returns-clause-value
returns-clause-value c =
    let head = c.put.ensures.written ∙ (λ i. spelled (4 ∷ 4 ∷ 8 ∷ []) (c.from.ensures i ∷ c.args.count ∷ 0 ∷ []) ++ []) ∙ append-nil (header c.args.count) in
    c.set.ensures.value ∙ ap (overwritten c.args.page.now 0) head
