use Rattle.standing_laws.specs.page_ways.Frame.{frame_in}
use Rattle.domain_memory.specs.Maps.{IsMarkedBelow}
use Rattle.domain_memory.proofs.space.read_space.Given as goal

abbrev pub invariant-loop-number : goal.invariant-loop-number
invariant-loop-number g l =
    IsMarkedBelow (g.M.MetaPages.pages l.pages) (frame_in l.frame) l.number l.space
