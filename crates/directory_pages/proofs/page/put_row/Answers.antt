use Rattle.std.proofs.Common.{◌≡◌, ◌∙◌, ◌+◌, ◌≤◌, List, ℕ, [], ◌∷◌, ◌++◌, length, ap, arith}
use Rattle.std.proofs.lemmas.List.{append-nil}
use Rattle.cell_records.specs.domain_base.Page.{overwritten}
use Rattle.cell_records.specs.Records.{spelled}
use Rattle.directory_pages.specs.declared.row.Row.{Row}
use Rattle.directory_pages.specs.Rows.{row_widths}
use Rattle.directory_pages.proofs.Again.{head, head_long}
use Rattle.directory_pages.proofs.Written.{over_twice}
use Rattle.directory_pages.proofs.page.put_row.Goals as goal

pub returns-clause-value : goal.returns-clause-value
returns-clause-value c =
    let row : Row = record { tag = c.args.tag; kind = c.args.kind; name = c.args.name.now } in
    let page = c.args.page.now in
    let at = c.args.at in
    let name = c.args.name.now in
    let head_is = c.put.ensures.written ∙ (λ i. spelled row_widths (c.from.ensures i ∷ c.from-2.ensures i ∷ c.kind_number.ensures.number i ∷ length name ∷ []) ++ []) ∙ append-nil (head row) in
    let next : at + length (head row) ≡ at + 8 = omega (arith, head_long row) in
    let fits : at + length (head row) ≤ length page = omega (arith, head_long row, c.requires.whole, c.requires.room) in
    c.set-2.ensures.value ∙ ap (λ (bs : List ℕ). overwritten bs (at + 8) name) (c.set.ensures.value ∙ ap (overwritten page at) head_is) ∙ over_twice page (head row) name at (at + 8) next fits
