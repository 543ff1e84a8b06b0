use Rattle.std.proofs.Common.{◌∙◌, ◌+◌, ◌*◌, [], ◌∷◌, ◌++◌, ap}
use Rattle.std.proofs.lemmas.List.{append-nil}
use Rattle.cell_records.specs.domain_base.Page.{overwritten}
use Rattle.cell_records.specs.Records.{spelled}
use Rattle.directory_pages.specs.Index.{spelled_entry}
use Rattle.directory_pages.proofs.write.put_entry.Goals as goal

pub returns-clause-value : goal.returns-clause-value
returns-clause-value c =
    let bytes = c.put.ensures.written ∙ (λ i. spelled (4 ∷ 4 ∷ []) (c.from.ensures i ∷ c.from-2.ensures i ∷ []) ++ []) ∙ append-nil (spelled_entry c.args.entry.now) in
    c.set.ensures.value ∙ ap (overwritten c.args.page.now (16 + 8 * c.args.place)) bytes
