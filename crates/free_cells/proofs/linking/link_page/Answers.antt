use Rattle.std.proofs.Common.{◌∙◌}
use Rattle.free_cells.proofs.PutThere.{there, others, well_formed}
use Rattle.free_cells.proofs.linking.link_page.Goals as goal

pub returns-clause-there : goal.returns-clause-there
returns-clause-there g c = there (g.M.MetaPages.pages c.set_next.new.pages) (g.M.MetaPages.pages c.put.new.self) c.args.home.now c.args.page c.put.ensures.value

pub returns-clause-others : goal.returns-clause-others
returns-clause-others g c = λ at apart.
    others (g.M.MetaPages.pages c.set_next.new.pages) (g.M.MetaPages.pages c.put.new.self) c.args.home.now c.args.page c.put.ensures.value at apart ∙ c.set_next.ensures.cells at

pub returns-clause-well_formed : goal.returns-clause-well_formed
returns-clause-well_formed g c = λ h was.
    well_formed (g.M.MetaPages.pages c.set_next.new.pages) (g.M.MetaPages.pages c.put.new.self) c.args.home.now c.args.page c.put.ensures.value c.requires.good h (c.set_next.ensures.well_formed h was)
