use Rattle.std.proofs.Common.{◌≡◌, ◌∙◌, ◌+◌, get_or, length, refl, sym, subst}
use Rattle.std.proofs.lemmas.Option.{get_or_from_slice_get, slice_get_read}
use mathlib.Core.Bool.{false≢true}
use Rattle.page_ways.specs.Frame.{frame_in}
use Rattle.page_ways.specs.sorted_sets.Members.{IsIn}
use Rattle.page_ways.specs.sorted_sets.declared.home_set.HomeSet.{HomeSet}
use Rattle.cell_faults.specs.declared.tables.CellsPage.{CellsPage}
use Rattle.cell_faults.proofs.WrongPages.{AreIn, right_in, wrong_in}
use Rattle.cell_faults.proofs.local.insert_wrong.Goals as goal
use Rattle.cell_faults.proofs.local.insert_wrong.Goals.{then-branch+in_ok-insert, else-branch}

pub loop-page-preserved : goal.loop-page-preserved
loop-page-preserved g c =
    let pages = g.M.MetaPages.pages c.args.pages.now in
    let frame = frame_in c.args.frame.now in
    let table = c.args.table.now in
    let read = c.args.read.now in
    let old = IsIn c.args.found.now in
    let number = c.loop-page.page-index in
    let page = c.page-item.result in
    let at : (d : CellsPage) → get_or read number d ≡ page = λ d. get_or_from_slice_get read number page d (slice_get_read read (length read) number page refl c.loop-page-test.true c.page-item.is) in
    elim c.if-branch.branch [
      | then-branch+in_ok-insert w ↦ subst (λ (s : HomeSet). AreIn pages frame table read old (IsIn s) (number + 1)) (sym w.found-is)
          (wrong_in pages frame table read old (IsIn c.loop-page.found) (IsIn w.insert.new.self) number page c.loop-page.invariant c.loop-page-test.true at
          (c.in_ok-is_wrong_page.ensures.0 w.if-branch.true) w.in_ok-insert.ensures.ok)
      | else-branch w ↦ subst (λ (s : HomeSet). AreIn pages frame table read old (IsIn s) (number + 1)) (sym w.found-is)
          (right_in pages frame table read old (IsIn c.loop-page.found) number page c.loop-page.invariant at (λ wrong. false≢true (sym w.if-branch.false ∙ c.in_ok-is_wrong_page.ensures.1 wrong)))
    ]
