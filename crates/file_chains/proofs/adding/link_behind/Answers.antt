use Rattle.free_cells.proofs.OfMetadataCells.Frames.{stands_stays}
use Rattle.free_cells.specs.metadata_cells.Chain.{is_at}
use Rattle.file_chains.proofs.OnePage.{place_stands}
use Rattle.file_chains.proofs.adding.link_behind.Goals as goal

pub write_cell-requires-2-clause-place : goal.write_cell-requires-2-clause-place
write_cell-requires-2-clause-place g c =
    let cell = c.requires.in_use.0 in
    place_stands (g.M.MetaPages.pages c.write_cell.new.pages) c.args.start.now cell
    (stands_stays (g.M.MetaPages.pages c.args.pages.now) (g.M.MetaPages.pages c.write_cell.new.pages) (is_at c.args.at.now) c.write_cell.ensures.others c.args.start.now cell c.requires.apart c.requires.in_use.1)
