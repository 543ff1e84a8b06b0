use Rattle.std.proofs.Common.{Contains}
use Rattle.tag_faults.specs.page_ways.Frame.{frame_in}
use Rattle.tag_faults.specs.cell_chains.Links.{cells_of}
use Rattle.tag_faults.proofs.OfCellChains.Each.{AreFound}
use Rattle.page_faults.specs.declared.indexes.IndexAt.{IndexAt}
use Rattle.page_faults.proofs.IndexesRead.{AreOnce, IsOf}
use Rattle.page_faults.proofs.indexes.read_indexes.Given as goal

abbrev pub invariant-loop-at : goal.invariant-loop-at
invariant-loop-at g l = record {
  found : AreFound (cells_of l.links) {X = IndexAt} (IsOf (g.M.MetaPages.pages l.pages) (frame_in l.frame)) (Contains l.indexes.items) l.at-index;
  once : AreOnce l.indexes.items;
}
