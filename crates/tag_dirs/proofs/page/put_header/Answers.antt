use Rattle.std.proofs.Common.{◌∙◌, [], ◌∷◌, ◌++◌, rules, subst, sym}
use Rattle.metadata_cells.specs.cell_records.Fields.{Fit}
use Rattle.metadata_cells.specs.cell_records.Records.{spelled}
use Rattle.tag_dirs.specs.TagPage.{IsNewPage}
use Rattle.tag_dirs.proofs.NewPage.{header_widths, header_numbers, is_new}
use Rattle.tag_dirs.proofs.page.put_header.Goals as goal

pub returns : goal.returns
returns c =
    let fit : Fit header_widths (header_numbers c.args.index) = search rules in
    subst (IsNewPage c.args.index) (sym c.set.ensures.value)
    (is_new c.args.index c.args.page.now c.put.new.out [] c.requires.zeros
    (c.put.ensures.written ∙ (λ i. spelled header_widths (c.from.ensures i ∷ c.from-2.ensures i ∷ 0 ∷ 0 ∷ []) ++ []))
    c.put.auto.out fit c.requires.index)
