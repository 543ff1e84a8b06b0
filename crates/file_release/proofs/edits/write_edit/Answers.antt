use Rattle.file_release.proofs.Edited.{belong_written}
use Rattle.file_release.proofs.edits.write_edit.Goals as goal

pub free_cell-requires-clause-belong : goal.free_cell-requires-clause-belong
free_cell-requires-clause-belong g c =
    let w = c.write_cell.ensures in
    belong_written c.args.cells.now (g.M.MetaPages.pages c.args.pages.now) (g.M.MetaPages.pages c.write_cell.new.pages) c.args.edit.now.at c.requires.belong w.others w.well_formed w.headers c.requires.used

pub returns-in_default-clause-belong : goal.returns-in_default-clause-belong
returns-in_default-clause-belong g c =
    let w = c.write_cell.ensures in
    belong_written c.args.cells.now (g.M.MetaPages.pages c.args.pages.now) (g.M.MetaPages.pages c.write_cell.new.pages) c.args.edit.now.at c.requires.belong w.others w.well_formed w.headers c.requires.used
