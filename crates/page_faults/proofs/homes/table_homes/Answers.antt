use Rattle.std.proofs.Common.{inl, inr, Contains, List, arith, sym, subst, ⊎_elim}
use Rattle.tag_faults.specs.domain_base.declared.place.Home.{Home}
use Rattle.tag_faults.specs.cell_faults.declared.tables.CellsPage.{CellsPage}
use Rattle.tag_faults.specs.page_ways.Frame.{frame_in}
use Rattle.page_faults.specs.Owned.{IsListed}
use Rattle.page_faults.proofs.HomesFound.{cells_listed}
use Rattle.page_faults.proofs.homes.table_homes.Goals as goal

pub returns : goal.returns
returns g c home =
    let pages = g.M.MetaPages.pages c.args.pages.now in
    let listed = cells_listed pages (frame_in c.args.frame.now) c.args.tables.now.read.items c.args.tables.now.unread.items c.requires.tables home in
    let same = c.deref.ensures.value in
    let table = c.in_ok-push_one.ensures home in
    let cells = c.in_ok-push_cells.ensures home in
    let tags = c.in_ok-push_tags.ensures home in
    let indexes = c.in_ok-push_indexes.ensures home in (
      λ is. ⊎_elim
          (λ in_tags. ⊎_elim
          (λ in_cells. ⊎_elim
          (λ in_table. ⊎_elim (λ none. absurd (let (k, within, at) = subst (λ (l : List Home). Contains l home) c.new-homes.ensures.items none in omega (arith, within))) (λ there. inl there) (table.0 in_table))
          (λ one. inr (inl (listed.0 (subst (λ (l : List CellsPage). IsListed l home) same one)))) (cells.0 in_cells))
          (λ one. inr (inr (inl one))) (tags.0 in_tags))
          (λ one. inr (inr (inr one))) (indexes.0 is),
      λ which. indexes.1 (⊎_elim (λ there. inl (tags.1 (inl (cells.1 (inl (table.1 (inr there)))))))
          (λ others. ⊎_elim (λ one. inl (tags.1 (inl (cells.1 (inr (subst (λ (l : List CellsPage). IsListed l home) (sym same) (listed.1 one)))))))
          (λ rest. ⊎_elim (λ one. inl (tags.1 (inr one))) (λ one. inr one) rest) others) which),
    )
