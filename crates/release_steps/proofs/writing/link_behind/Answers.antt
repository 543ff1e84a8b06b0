use Rattle.release_list.proofs.OfMetadataCells.Frames.{stands_stays}
use Rattle.release_list.specs.metadata_cells.Chain.{is_at}
use Rattle.release_list.proofs.OfFileChains.OnePage.{place_stands}
use Rattle.release_steps.proofs.writing.link_behind.Goals as goal

pub write_cell-requires-2-clause-place : goal.write_cell-requires-2-clause-place
write_cell-requires-2-clause-place g c =
    let cell = c.requires.in_use.0 in
    place_stands (g.M.MetaPages.pages c.write_cell.new.pages) c.args.last.now cell
    (stands_stays (g.M.MetaPages.pages c.args.pages.now) (g.M.MetaPages.pages c.write_cell.new.pages) (is_at c.args.at.now) c.write_cell.ensures.others c.args.last.now cell c.requires.apart c.requires.in_use.1)
