use Rattle.index_pages.proofs.Walked.{IsCome}
use Rattle.index_pages.proofs.walk.index_home.Given as goal

abbrev pub invariant-loop : goal.invariant-loop
invariant-loop g l = IsCome (g.M.MetaPages.pages l.fn.pages) l.fn.first l.counter l.home
