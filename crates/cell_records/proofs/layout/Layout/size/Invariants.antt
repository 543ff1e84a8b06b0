use Rattle.std.proofs.Common.{◌≡◌, sum, take}
use Rattle.cell_records.proofs.layout.Layout.size.Given as goal

abbrev pub invariant-loop-width : goal.invariant-loop-width
invariant-loop-width g l = l.size ≡ sum (take l.width-index l.self.widths)
