use Rattle.std.proofs.Common.{◌≡◌}
use Rattle.cell_faults.specs.domain_base.declared.place.Home.{Home}
use Rattle.cell_faults.specs.metadata_cells.CellPage.{home_of}
use Rattle.cell_faults.specs.cell_chains.Links.{cells_of}
use Rattle.cell_faults.specs.page_ways.Frame.{frame_in}
use Rattle.cell_faults.specs.sorted_sets.Members.{IsIn}
use Rattle.cell_faults.proofs.OfCellChains.Each.{AreFound}
use Rattle.tag_faults.specs.Sources.{ReadsAstray}
use Rattle.tag_faults.proofs.sources.source_faults.Given as goal

abbrev pub invariant-loop-at : goal.invariant-loop-at
invariant-loop-at g l = AreFound (cells_of l.links) {X = Home} (λ home at link. (home_of at ≡ home) × ReadsAstray (g.M.MetaPages.pages l.pages) (frame_in l.frame) l.table at) (IsIn l.found) l.at-index
