use Rattle.release_tables.proofs.Wells.{list_same, still_well}
use Rattle.release_tables.proofs.going.release_by.Goals as goal

pub returns-clause-well : goal.returns-clause-well
returns-clause-well g c =
    let pages = g.M.MetaPages.pages c.args.pages.now in
    let new = c.release_some.new in
    let e = c.release_some.ensures in
    still_well 5 c.args.version c.requires.well.0 c.args.list.now.list new.self.list c.args.space.now new.space c.args.cells.now new.cells pages (g.M.MetaPages.pages new.pages) c.release_some.result c.requires.well.1
    (e.ok c.requires.well.0 c.requires.well.1) e.err (list_same c.release_some.result c.args.list.now new.self e.list) e.cells e.pages
