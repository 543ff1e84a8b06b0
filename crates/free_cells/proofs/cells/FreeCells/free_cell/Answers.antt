use Rattle.free_cells.proofs.Belongs.{used_not_free, all_on, belong_freed}
use Rattle.free_cells.proofs.cells.FreeCells.free_cell.Goals as goal

pub give_back-requires-clause-used : goal.give_back-requires-clause-used
give_back-requires-clause-used g c = used_not_free c.args.self.now (g.M.MetaPages.pages c.args.pages.now) c.requires.belong c.args.at c.requires.used

pub give_back-requires-clause-others : goal.give_back-requires-clause-others
give_back-requires-clause-others g c = all_on c.args.self.now (g.M.MetaPages.pages c.args.pages.now) c.requires.belong c.args.at.vol

pub returns-clause-belong : goal.returns-clause-belong
returns-clause-belong g c =
    let clear = c.clear_cell.ensures in
    belong_freed c.args.self.now c.give_back.new.self (g.M.MetaPages.pages c.args.pages.now) (g.M.MetaPages.pages c.clear_cell.new.pages) c.args.at c.requires.belong c.requires.used c.requires.table
    clear.others clear.well_formed clear.headers clear.cleared c.give_back.ensures
