use Rattle.std.proofs.Common.{◌≡◌, ◌∙◌, ℕ, ◌-◌, List, [], ◌∷◌, ◌++◌, length, slice_index, Option, Some, None, IsSomeAnd, ap, subst, sym}
use Rattle.free_cells.specs.domain_base.declared.place.Home.{Home}
use Rattle.free_cells.specs.page_store.Homes.{pages_of}
use Rattle.free_cells.specs.metadata_cells.CellPage.{next_of}
use Rattle.free_cells.specs.Cells.{Cells, JoinsPage, table_of, with_page_last}
use Rattle.free_cells.proofs.Belongs.{last_leads, some_and}
use Rattle.cell_tables.proofs.free.one_read.Goals as goal

-- the tables after a page has joined
joined : (o : Option (List ℕ)) (home : Home) (old new : Cells) → IsSomeAnd o (λ page. JoinsPage home page old new) → (vol : ℕ) → table_of new vol ≡ with_page_last home old vol
joined None home old new is vol = absurd is
joined (Some page) home old new is vol = is.tables vol

pub returns-clause-first : goal.returns-clause-first
returns-clause-first c =
    let cells = c.in_ok-cells.cells in
    joined (pages_of c.args.pages.now.entries.items c.first_home.result) c.first_home.result cells c.read_page.new.self c.in_ok-read_page.ensures.ok 1
    ∙ ap (λ (h : Home). with_page_last h cells 1) c.first_home.ensures
    ∙ ap (λ (t : List ℕ). t ++ 3 ∷ []) (c.in_ok-cells.ensures.value.tables 1)

pub returns-clause-second : goal.returns-clause-second
returns-clause-second c =
    let cells = c.in_ok-cells.cells in
    joined (pages_of c.args.pages.now.entries.items c.first_home.result) c.first_home.result cells c.read_page.new.self c.in_ok-read_page.ensures.ok 2
    ∙ ap (λ (h : Home). with_page_last h cells 2) c.first_home.ensures
    ∙ c.in_ok-cells.ensures.value.tables 2

pub returns-clause-ends : goal.returns-clause-ends
returns-clause-ends c =
    let pages = pages_of c.args.pages.now.entries.items in
    last_leads c.read_page.new.self 1 pages 0
    (subst (λ (t : List ℕ). IsSomeAnd (pages (record { vol = 1; page = slice_index t (length t - 1) })) (λ page. next_of page ≡ 0)) (sym (returns-clause-first c))
    (some_and (pages (record { vol = 1; page = 3 })) (λ page is. is.last) c.requires))
