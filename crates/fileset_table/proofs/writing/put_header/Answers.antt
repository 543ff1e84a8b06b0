use Rattle.std.proofs.Common.{◌∙◌, [], ◌∷◌, ◌++◌, drop, rules, ap, subst, sym, length}
use Rattle.metadata_cells.specs.cell_records.Fields.{Fit, number_at}
use Rattle.metadata_cells.specs.cell_records.Records.{spelled}
use Rattle.fileset_table.specs.Page.{HasHeader}
use Rattle.fileset_table.proofs.Slots.{header_numbers, header_there, header_widths, made_there, rest_stays}
use Rattle.fileset_table.proofs.writing.put_header.Goals as goal

pub returns-clause-header : goal.returns-clause-header
returns-clause-header c =
    let fit : Fit header_widths (header_numbers c.args.made) = search rules in
    subst HasHeader (sym c.set.ensures.value)
    (header_there c.args.page.now c.put.new.out c.args.made (c.put.ensures.written ∙ (λ i. spelled header_widths (c.from.ensures i ∷ 0 ∷ c.args.made ∷ []) ++ [])) c.put.auto.out fit)

pub returns-clause-made : goal.returns-clause-made
returns-clause-made c =
    let fit : Fit header_widths (header_numbers c.args.made) = search rules in
    ap (number_at 8 8) c.set.ensures.value
    ∙ made_there c.args.page.now c.put.new.out c.args.made (c.put.ensures.written ∙ (λ i. spelled header_widths (c.from.ensures i ∷ 0 ∷ c.args.made ∷ []) ++ [])) c.put.auto.out fit

pub returns-clause-rest : goal.returns-clause-rest
returns-clause-rest c =
    let fit : Fit header_widths (header_numbers c.args.made) = search rules in
    ap (drop 4112) c.set.ensures.value
    ∙ rest_stays c.args.page.now c.put.new.out c.args.made (c.put.ensures.written ∙ (λ i. spelled header_widths (c.from.ensures i ∷ 0 ∷ c.args.made ∷ []) ++ [])) c.put.auto.out fit
    (sym (ap length c.set.ensures.value) ∙ c.set.ensures.len)
