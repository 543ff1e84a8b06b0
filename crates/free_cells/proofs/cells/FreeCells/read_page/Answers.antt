use Rattle.std.proofs.Common.{IsSomeAnd, length, subst, sym}
use Rattle.free_cells.specs.Belong.{Belong, IsNextPage}
use Rattle.free_cells.specs.Cells.{Cells, table_of}
use Rattle.free_cells.proofs.Belongs.{all_on, belong_grown, next_is_new, some_and}
use Rattle.free_cells.proofs.Volumes.{by_result}
use Rattle.free_cells.proofs.cells.FreeCells.read_page.Goals as goal

pub join_page-requires-clause-fresh : goal.join_page-requires-clause-fresh
join_page-requires-clause-fresh g c =
    let pages = g.M.MetaPages.pages c.args.pages.now in
    next_is_new c.args.self.now pages c.args.home c.requires.belong (some_and (pages c.args.home) (λ page is. is.indexed) c.requires.page)

pub join_page-requires-clause-others : goal.join_page-requires-clause-others
join_page-requires-clause-others g c = all_on c.args.self.now (g.M.MetaPages.pages c.args.pages.now) c.requires.belong c.args.home.vol

pub returns-in-Some-clause-belong : goal.returns-in-Some-clause-belong
returns-in-Some-clause-belong g c =
    let pages = g.M.MetaPages.pages c.args.pages.now in
    let there = sym c.in-Some.ensures in
    let next = subst (λ o. IsSomeAnd o (IsNextPage (length (table_of c.args.self.now c.args.home.vol)))) there c.requires.page in
    by_result (belong_grown c.args.self.now c.join_page.new.self pages c.args.home c.in-Some.page.now c.requires.belong there next c.requires.linked)
    (λ same. subst (λ (cells : Cells). Belong cells pages) (sym same) c.requires.belong) c.join_page.result c.join_page.ensures.ok c.join_page.ensures.err
