use Rattle.std.proofs.Common.{◌∙◌, sym}
use mathlib.Core.Bool.{false≢true}
use Rattle.page_ways.specs.Frame.{frame_in}
use Rattle.cell_faults.proofs.WrongPlace.{good_place, none_wrong}
use Rattle.cell_faults.proofs.places.has_wrong_place.Goals as goal

pub loop-cell-preserved : goal.loop-cell-preserved
loop-cell-preserved g c =
    good_place (g.M.MetaPages.pages c.args.pages.now) (frame_in c.args.frame.now) c.args.table.now c.args.home.now c.loop-cell.cell c.loop-cell.invariant
    (λ wrong. false≢true (sym c.if-branch.false ∙ c.in_ok-is_wrong_at.ensures.1 wrong))

pub returns : goal.returns
returns g c = (
  λ told. absurd (false≢true told),
  λ wrong. absurd (none_wrong (g.M.MetaPages.pages c.args.pages.now) (frame_in c.args.frame.now) c.args.table.now c.args.home.now c.loop-cell.cell c.loop-cell-test.false c.loop-cell.invariant wrong),
)
