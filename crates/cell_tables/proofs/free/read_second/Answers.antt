use Rattle.std.proofs.Common.{◌≡◌, ◌∙◌, ℕ, List, length, IsSomeAnd, ap, subst, sym, arith}
use Rattle.free_cells.specs.domain_base.declared.place.Home.{Home}
use Rattle.free_cells.specs.page_store.Homes.{pages_of}
use Rattle.free_cells.specs.Belong.{IsNextPage}
use Rattle.free_cells.specs.Cells.{table_of}
use Rattle.free_cells.proofs.Belongs.{some_and}
use Rattle.cell_tables.proofs.free.read_second.Goals as goal

pub read_page-requires-clause-page : goal.read_page-requires-clause-page
read_page-requires-clause-page c =
    let cells = c.args.cells.now in
    let pages = pages_of c.args.pages.now.entries.items in
    subst (λ (h : Home). IsSomeAnd (pages h) (IsNextPage (length (table_of cells h.vol)))) (sym c.second_home.ensures)
    (subst (λ (t : List ℕ). IsSomeAnd (pages (record { vol = 2; page = 5 })) (IsNextPage (length t))) (sym c.requires.second)
    (some_and (pages (record { vol = 2; page = 5 })) (λ page is. record { good = is.good; indexed = is.indexed }) c.requires.page))

pub read_page-requires-clause-linked : goal.read_page-requires-clause-linked
read_page-requires-clause-linked c =
    let cells = c.args.cells.now in
    let none : length (table_of cells c.second_home.result.vol) ≡ 0
    = ap (λ (h : Home). length (table_of cells h.vol)) c.second_home.ensures ∙ ap (λ (t : List ℕ). length t) c.requires.second in
    λ place last. absurd (omega (arith, last, none))
