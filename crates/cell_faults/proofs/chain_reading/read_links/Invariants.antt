use Rattle.page_ways.specs.Frame.{frame_in}
use Rattle.cell_faults.proofs.OnPages.{AreLinksBelow}
use Rattle.cell_faults.proofs.chain_reading.read_links.Given as goal

abbrev pub invariant-loop-page : goal.invariant-loop-page
invariant-loop-page g l = AreLinksBelow (g.M.MetaPages.pages l.pages) (frame_in l.frame) l.tables.read.items l.links l.page-index
