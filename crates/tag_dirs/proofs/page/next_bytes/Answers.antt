use Rattle.std.proofs.Common.{◌≤◌, ◌∙◌, [], ◌∷◌, rules, subst}
use Rattle.metadata_cells.specs.cell_records.Fields.{Fit}
use Rattle.tag_dirs.proofs.NewPage.{home_at, home_widths, linked}
use Rattle.tag_dirs.proofs.page.next_bytes.Goals as goal

pub returns : goal.returns
returns c =
    let fit : Fit home_widths (c.from.result ∷ c.from-2.result ∷ []) = search rules in
    let read = home_at c.from.result c.from-2.result [] c.put.new.out c.put.ensures.written fit in
    λ page good. linked page c.put.new.out c.args.next.now c.put.auto.out (read 0 ∙ c.from.ensures ∙ c.number.ensures.value) (read 1 ∙ c.from-2.ensures)
    (subst (λ n. 1 ≤ n) c.number.ensures.value c.number.ensures.range.0) (subst (λ n. n ≤ 8) c.number.ensures.value c.number.ensures.range.1) good
