use Rattle.domain_faults.specs.page_ways.Frame.{frame_in}
use Rattle.domain_bringing.specs.Range.{AreSizedBelow}
use Rattle.domain_bringing.proofs.range.are_sized.Given as goal

abbrev pub invariant-loop-number : goal.invariant-loop-number
invariant-loop-number l = AreSizedBelow l.number (frame_in l.frame)
