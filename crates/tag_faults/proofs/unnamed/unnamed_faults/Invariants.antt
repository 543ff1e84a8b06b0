use Rattle.cell_faults.specs.domain_base.declared.place.Home.{Home}
use Rattle.cell_faults.specs.cell_chains.Links.{cells_of}
use Rattle.cell_faults.specs.sorted_sets.Members.{IsIn}
use Rattle.cell_faults.proofs.OfCellChains.Each.{AreFound}
use Rattle.tag_faults.specs.Unnamed.{IsFirstAlone}
use Rattle.tag_faults.proofs.unnamed.unnamed_faults.Given as goal

abbrev pub invariant-loop-at : goal.invariant-loop-at
invariant-loop-at g l = AreFound (cells_of l.links) {X = Home} (IsFirstAlone (g.M.MetaPages.pages l.pages) l.named) (IsIn l.found) l.at-index
