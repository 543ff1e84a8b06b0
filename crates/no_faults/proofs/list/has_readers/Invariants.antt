use Rattle.std.proofs.Common.{IsTrue}
use Rattle.cell_faults.specs.cell_chains.Links.{cells_of}
use Rattle.cell_faults.proofs.OfCellChains.Each.{AreFound}
use Rattle.no_faults.specs.Listing.{SaysThrough}
use Rattle.no_faults.proofs.list.has_readers.Given as goal

abbrev pub invariant-loop-at : goal.invariant-loop-at
invariant-loop-at g l = AreFound (cells_of l.links) {X = Unit {0}} (λ _ at link. SaysThrough (g.M.MetaPages.pages l.pages) at) (λ _. IsTrue l.found) l.at-index
