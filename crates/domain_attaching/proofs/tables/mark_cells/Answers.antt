use Rattle.std.proofs.Common.{◌≡◌, ℕ, List, get_or, subst, sym}
use Rattle.std.specs.Prelude.{Contains}
use Rattle.domain_attaching.specs.Tables.{Marks}
use Rattle.domain_attaching.proofs.Marked.{contains_nothing, marks_all, marks_as, marks_more, marks_none}
use Rattle.domain_attaching.proofs.tables.mark_cells.Goals as goal

pub loop-page-init : goal.loop-page-init
loop-page-init c = marks_none _ c.args.marks.now (λ k. contains_nothing k)

pub loop-page-preserved : goal.loop-page-preserved
loop-page-preserved c =
    let table = c.table-page-items.result.now in
    let page = get_or table c.loop-page.page-index 0 in
    marks_more (λ k. k) table c.loop-page.page-index 0 c.args.marks.now c.loop-page.marks c.mark.new.marks c.loop-page-test.true c.loop-page.invariant
    (marks_as (λ k. k ≡ page) (λ k. page ≡ k) c.loop-page.marks c.mark.new.marks (λ k is. sym is) (λ k is. sym is) c.mark.ensures)

pub returns : goal.returns
returns c =
    subst (λ (l : List ℕ). Marks (Contains l) c.args.marks.now c.loop-page.marks) c.table-page-items.ensures
    (marks_all (λ k. k) c.table-page-items.result.now c.loop-page.page-index c.args.marks.now c.loop-page.marks c.loop-page-test.false c.loop-page.invariant)
