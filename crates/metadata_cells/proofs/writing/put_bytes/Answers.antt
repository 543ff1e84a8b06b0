use Rattle.std.proofs.Common.{◌≡◌, ℕ, List, length, IfSome, IsSomeAnd, true, subst}
use Rattle.metadata_cells.specs.CellPage.{home_of, is_cell_page}
use Rattle.metadata_cells.proofs.Changed.{stands_there, others_stay, headers_stay, good_pages}
use Rattle.metadata_cells.proofs.writing.put_bytes.Goals as goal

pub returns-clause-there : goal.returns-clause-there
returns-clause-there g c =
    let changes = c.change_cell.ensures.changes in
    let whole = subst (λ o. IfSome o (λ (page : List ℕ). length page ≡ 8192)) changes.was (g.met.M.MetaPages.whole c.args.pages.now (home_of c.args.at.now)) in
    let magic = subst (λ o. IsSomeAnd o (λ (page : List ℕ). is_cell_page page ≡ true)) changes.was c.requires.place.0 in
    stands_there c.args.at.now c.args.bytes.now (g.M.MetaPages.pages c.args.pages.now) (g.M.MetaPages.pages c.change_cell.new.pages) changes whole c.requires.len c.requires.place.1 magic

pub returns-clause-others : goal.returns-clause-others
returns-clause-others g c =
    let changes = c.change_cell.ensures.changes in
    let whole = subst (λ o. IfSome o (λ (page : List ℕ). length page ≡ 8192)) changes.was (g.met.M.MetaPages.whole c.args.pages.now (home_of c.args.at.now)) in
    others_stay c.args.at.now c.args.bytes.now (g.M.MetaPages.pages c.args.pages.now) (g.M.MetaPages.pages c.change_cell.new.pages) changes whole c.requires.len c.requires.place.1

pub returns-clause-well_formed : goal.returns-clause-well_formed
returns-clause-well_formed g c =
    let changes = c.change_cell.ensures.changes in
    let whole = subst (λ o. IfSome o (λ (page : List ℕ). length page ≡ 8192)) changes.was (g.met.M.MetaPages.whole c.args.pages.now (home_of c.args.at.now)) in
    good_pages c.args.at.now c.args.bytes.now (g.M.MetaPages.pages c.args.pages.now) (g.M.MetaPages.pages c.change_cell.new.pages) changes whole c.requires.len c.requires.place.1 c.requires.good

pub returns-clause-headers : goal.returns-clause-headers
returns-clause-headers g c =
    let changes = c.change_cell.ensures.changes in
    let whole = subst (λ o. IfSome o (λ (page : List ℕ). length page ≡ 8192)) changes.was (g.met.M.MetaPages.whole c.args.pages.now (home_of c.args.at.now)) in
    headers_stay c.args.at.now c.args.bytes.now (g.M.MetaPages.pages c.args.pages.now) (g.M.MetaPages.pages c.change_cell.new.pages) changes whole c.requires.len c.requires.place.1
