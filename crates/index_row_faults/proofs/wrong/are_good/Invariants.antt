use Rattle.page_faults.specs.domain_base.declared.place.Home.{Home}
use Rattle.index_row_faults.specs.Totals.{IsGoodAt}
use Rattle.index_row_faults.proofs.Items.{AreSo}
use Rattle.index_row_faults.proofs.wrong.are_good.Given as goal

abbrev pub invariant-loop-home : goal.invariant-loop-home
invariant-loop-home g l = AreSo {X = Home} (IsGoodAt (g.M.MetaPages.pages l.pages)) l.homes l.home-index
