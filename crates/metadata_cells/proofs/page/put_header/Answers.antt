use Rattle.std.proofs.Common.{◌∙◌, [], ◌∷◌, ◌++◌, rules, subst, sym}
use Rattle.cell_records.specs.Fields.{Fit}
use Rattle.cell_records.specs.Records.{spelled}
use Rattle.metadata_cells.specs.CellPage.{IsEmptyPage}
use Rattle.metadata_cells.proofs.Headers.{header_widths, header_numbers, is_empty}
use Rattle.metadata_cells.proofs.page.put_header.Goals as goal

pub returns : goal.returns
returns c =
    let fit : Fit header_widths (header_numbers c.args.index) = search rules in
    subst (IsEmptyPage c.args.index) (sym c.set.ensures.value)
    (is_empty c.args.index c.args.page.now c.put.new.out [] c.requires
    (c.put.ensures.written ∙ (λ i. spelled header_widths (c.from.ensures i ∷ c.from-2.ensures i ∷ 0 ∷ 28 ∷ 0 ∷ []) ++ []))
    c.put.auto.out fit)
