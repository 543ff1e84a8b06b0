use Rattle.std.proofs.Common.{◌≡◌, ◌<◌, ℕ, List, [], ◌∷◌, length, get_or, ap, subst, sym, arith, lit<}
use Rattle.std.specs.List.{Contains}
use Rattle.free_cells.specs.domain_base.declared.place.Home.{Home}
use Rattle.free_cells.specs.page_store.Homes.{pages_of}
use Rattle.free_cells.specs.Belong.{LeadsTo}
use Rattle.free_cells.specs.Cells.{table_of}
use Rattle.cell_tables.proofs.free.add_page.Goals as goal

not_there : ¬ Contains {X = ℕ} (3 ∷ []) 9
not_there there =
    let first : there.0 ≡ 0 = omega (arith, there.1) in
    omega (arith, subst (λ (k : ℕ). get_or (3 ∷ []) k 9 ≡ 9) first there.2)

pub add_page-requires-clause-some : goal.add_page-requires-clause-some
add_page-requires-clause-some c =
    let cells = c.args.cells.now in
    subst (λ (h : Home). 0 < length (table_of cells h.vol)) (sym c.added_home.ensures)
    (subst (λ (t : List ℕ). 0 < length t) (sym c.requires.first) (lit< tt))

pub add_page-requires-clause-ends : goal.add_page-requires-clause-ends
add_page-requires-clause-ends c =
    subst (λ (h : Home). LeadsTo c.args.cells.now h.vol (pages_of c.args.pages.now.entries.items) 0) (sym c.added_home.ensures) c.requires.ends

pub add_page-requires-clause-fresh : goal.add_page-requires-clause-fresh
add_page-requires-clause-fresh c =
    let cells = c.args.cells.now in
    subst (λ (h : Home). ¬ Contains (table_of cells h.vol) h.page) (sym c.added_home.ensures)
    (subst (λ (t : List ℕ). ¬ Contains t 9) (sym c.requires.first) not_there)
