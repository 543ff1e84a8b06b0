use Rattle.std.proofs.Common.{◌∙◌, false, nat_eq, refl, subst, take, arith}
use Rattle.std.proofs.lemmas.Bool.{eq-eqb}
use Rattle.free_space.specs.VolumeSpace.{is_among}
use Rattle.free_space.specs.declared.waiting.Waiting.{Waiting}
use Rattle.free_cells.specs.Marking.{MarksAll}
use Rattle.free_cells.proofs.Many.{any_at, any_more, marks_both, marks_none, still_there, take_whole}
use Rattle.free_cells.proofs.bits.clear_waiting.Goals as goal

pub loop-waiting-init : goal.loop-waiting-init
loop-waiting-init g c = record { marks = marks_none c.args.vol false (g.M.MetaPages.pages c.args.pages.now); same_room = refl; same_before = refl }

pub mark-requires : goal.mark-requires
mark-requires g c =
    still_there c.args.vol (is_among (take c.loop-waiting.waiting-index c.args.list.now)) false _ _ c.loop-waiting.invariant.marks _
    (c.requires _ (any_at (λ (w : Waiting). nat_eq _ w.page) c.args.list.now c.loop-waiting.waiting-index _ c.loop-waiting-test.true (eq-eqb _ _ refl)))

pub loop-waiting-preserved : goal.loop-waiting-preserved
loop-waiting-preserved g c = record {
  marks = marks_both c.args.vol (is_among (take c.loop-waiting.waiting-index c.args.list.now)) _ _ false _ _ _
      c.loop-waiting.invariant.marks c.mark.ensures.marks
      (λ q. any_more (λ (w : Waiting). nat_eq q w.page) c.args.list.now c.loop-waiting.waiting-index _ c.loop-waiting-test.true);
  same_room = c.mark.ensures.room ∙ c.loop-waiting.invariant.same_room;
  same_before = c.mark.ensures.before ∙ c.loop-waiting.invariant.same_before;
}

pub returns-clause-marks : goal.returns-clause-marks
returns-clause-marks g c =
    subst (λ l. MarksAll c.args.vol (is_among l) false (g.M.MetaPages.pages c.args.pages.now) (g.M.MetaPages.pages c.loop-waiting.pages))
    (take_whole c.args.list.now c.loop-waiting.waiting-index (λ within. omega (arith, within, c.loop-waiting-test.false))) c.loop-waiting.invariant.marks

pub returns-clause-room : goal.returns-clause-room
returns-clause-room g c = c.loop-waiting.invariant.same_room

pub returns-clause-before : goal.returns-clause-before
returns-clause-before g c = c.loop-waiting.invariant.same_before
