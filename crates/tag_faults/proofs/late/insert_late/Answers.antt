use Rattle.std.proofs.Common.{◌∙◌, inl, inr, sym, ap, subst, ⊎_elim}
use Rattle.cell_faults.specs.metadata_cells.CellPage.{home_of}
use Rattle.cell_faults.specs.page_ways.Frame.{frame_in}
use Rattle.tag_faults.specs.Late.{HasLateNumber}
use Rattle.tag_faults.proofs.late.insert_late.Goals as goal

pub returns-in_ok-insert : goal.returns-in_ok-insert
returns-in_ok-insert g c home =
    let late = HasLateNumber (g.M.MetaPages.pages c.args.pages.now) (frame_in c.args.frame.now) c.args.table.now in
    let some = c.in-Some.ensures.some in
    let put = c.in_ok-insert.ensures.ok home in
    let there = subst late some (c.in_ok-has_late_number.ensures.0 c.if-branch.true) in (
      λ is. ⊎_elim (λ was. inl was) (λ here. inr (sym (here ∙ c.home_of.ensures ∙ ap home_of some), c.has_original.ensures.0 c.if-not-has_original.false, c.leads_to_first.ensures.0 c.if-not-leads_to_first.false, there)) (put.0 is),
      λ which. put.1 (⊎_elim (λ was. inl was) (λ leads. inr (sym leads.0 ∙ ap home_of (sym some) ∙ sym c.home_of.ensures)) which),
    )
