use Rattle.std.proofs.Common.{◌∙◌, ◌||◌, get_or, nat_eq, refl, ap, subst, take, arith}
use Rattle.std.proofs.lemmas.Bool.{eq-eqb}
use Rattle.free_space.specs.Sound.{is_one}
use Rattle.free_cells.specs.Marks.{bitmap_home}
use Rattle.free_cells.specs.Marking.{MarksAll}
use Rattle.free_cells.proofs.Many.{any_at, any_more, flip, marks_both, marks_none, still_there, take_whole}
use Rattle.free_cells.proofs.bits.mark_all.Goals as goal

pub loop-page-init : goal.loop-page-init
loop-page-init g c = record { marks = marks_none c.args.vol c.args.is_used (g.M.MetaPages.pages c.args.pages.now); same_room = refl; same_before = refl }

pub mark-requires : goal.mark-requires
mark-requires g c =
    still_there c.args.vol (is_one (take c.loop-page.page-index c.args.list.now)) c.args.is_used _ _ c.loop-page.invariant.marks (bitmap_home c.args.vol (get_or c.args.list.now c.loop-page.page-index 0))
    (c.requires (get_or c.args.list.now c.loop-page.page-index 0)
    (any_at (λ p. nat_eq p (get_or c.args.list.now c.loop-page.page-index 0)) c.args.list.now c.loop-page.page-index 0 c.loop-page-test.true (eq-eqb _ _ refl)))

pub loop-page-preserved : goal.loop-page-preserved
loop-page-preserved g c = record {
  marks = marks_both c.args.vol (is_one (take c.loop-page.page-index c.args.list.now)) (λ q. nat_eq q (get_or c.args.list.now c.loop-page.page-index 0)) _ c.args.is_used _ _ _
      c.loop-page.invariant.marks c.mark.ensures.marks
      (λ q. any_more (λ p. nat_eq p q) c.args.list.now c.loop-page.page-index 0 c.loop-page-test.true ∙ ap (λ b. is_one (take c.loop-page.page-index c.args.list.now) q || b) (flip _ q));
  same_room = c.mark.ensures.room ∙ c.loop-page.invariant.same_room;
  same_before = c.mark.ensures.before ∙ c.loop-page.invariant.same_before;
}

pub returns-clause-marks : goal.returns-clause-marks
returns-clause-marks g c =
    subst (λ l. MarksAll c.args.vol (is_one l) c.args.is_used (g.M.MetaPages.pages c.args.pages.now) (g.M.MetaPages.pages c.loop-page.pages))
    (take_whole c.args.list.now c.loop-page.page-index (λ within. omega (arith, within, c.loop-page-test.false))) c.loop-page.invariant.marks

pub returns-clause-room : goal.returns-clause-room
returns-clause-room g c = c.loop-page.invariant.same_room

pub returns-clause-before : goal.returns-clause-before
returns-clause-before g c = c.loop-page.invariant.same_before
