use Rattle.std.proofs.Common.{◌∙◌, sym}
use mathlib.Core.Bool.{false≢true}
use Rattle.directory_faults.proofs.Ordered.{never_there}
use Rattle.directory_faults.proofs.misplaced.is_below_itself.Goals as goal

pub returns-then-is_some : goal.returns-then-is_some
returns-then-is_some c = (
  λ is. absurd (false≢true is),
  λ way. absurd (never_there c.args.children.now c.args.order.now c.requires c.if-order.true c.args.tag c.place_of.result c.place_of.ensures (sym c.is_some.ensures ∙ c.if-is_some.true) way),
)
