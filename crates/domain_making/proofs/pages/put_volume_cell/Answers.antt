use Rattle.std.proofs.Common.{arith}
use Rattle.domain_making.proofs.NewCellsPage.{are_records, few_bytes, has_place, is_new_cells}
use Rattle.domain_making.proofs.pages.put_volume_cell.Goals as goal

pub write_cell-requires-clause-place : goal.write_cell-requires-clause-place
write_cell-requires-clause-place g c =
    has_place (g.M.MetaPages.pages c.args.store.now) (record { vol = c.args.home.now.vol; page = c.args.home.now.page; cell = 0 }) c.requires.free (omega arith)

pub write_cell-requires-clause-good : goal.write_cell-requires-clause-good
write_cell-requires-clause-good g c = are_records c.args.version c.args.pages c.ranges.pages.fits c.args.records.now c.requires.says

pub write_cell-requires-clause-fits : goal.write_cell-requires-clause-fits
write_cell-requires-clause-fits g c = few_bytes c.args.version c.args.pages c.ranges.pages.fits c.args.records.now c.requires.says

pub returns : goal.returns
returns g c =
    is_new_cells c.args.version c.args.pages c.args.home.now.vol c.args.home.now.page (g.M.MetaPages.pages c.args.store.now) (g.M.MetaPages.pages c.write_cell.new.pages) c.args.records.now c.requires.says c.requires.free
    c.write_cell.ensures.stands c.write_cell.ensures.others c.write_cell.ensures.well_formed c.write_cell.ensures.headers
