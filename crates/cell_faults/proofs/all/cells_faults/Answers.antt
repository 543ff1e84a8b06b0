use Rattle.std.proofs.Common.{inl, inr, ⊎_elim}
use Rattle.page_ways.specs.Frame.{frame_in}
use Rattle.cell_faults.proofs.CellsAll.{cells_all}
use Rattle.cell_faults.proofs.all.cells_faults.Goals as goal

pub returns : goal.returns
returns g c home =
    let pages = g.M.MetaPages.pages c.args.pages.now in
    let frame = frame_in c.args.frame.now in
    let all = cells_all pages frame c.args.table.now home in
    let put = c.in_ok-insert_set.ensures home in
    let here = c.in_ok-found.ensures home in
    let chains = c.in_ok-chains.ensures frame c.in_ok-links.ensures home in (
      λ is. all.0 (⊎_elim (λ first. inl (here.0 first)) (λ fault. inr (chains.0 fault)) (put.0 is)),
      λ fault. put.1 (⊎_elim (λ first. inl (here.1 first)) (λ chain. inr (chains.1 chain)) (all.1 fault)),
    )
