use Rattle.index_pages.proofs.Walked.{HasPassed, IsCome}
use Rattle.index_pages.proofs.walk.count_index.Given as goal

abbrev pub invariant-loop-count : goal.invariant-loop-count
invariant-loop-count g l =
    IsCome (g.M.MetaPages.pages l.fn.pages) l.fn.first l.count l.home × HasPassed (g.M.MetaPages.pages l.fn.pages) l.fn.first l.count
