use Rattle.std.proofs.Common.{List, Contains, inl, inr, sym, subst, ⊎_elim}
use Rattle.metadata_cells.specs.domain_base.declared.place.CellAt.{CellAt}
use Rattle.cell_chains.proofs.Walked.{listed_is_on}
use Rattle.cell_chains.proofs.walk.mark_chain.Goals as goal

pub returns : goal.returns
returns c at =
    let on = listed_is_on c.args.links.now c.args.start.now c.in_ok-cells.cells.items c.in_ok-cells.ensures at in
    let put = c.in_ok-insert_all.ensures at in
    let same = c.deref.ensures.value in (
      λ is. ⊎_elim (λ before. inl before) (λ among. inr (on.0 (subst (λ (l : List CellAt). Contains l at) same among))) (put.0 is),
      λ which. put.1 (⊎_elim (λ before. inl before) (λ there. inr (subst (λ (l : List CellAt). Contains l at) (sym same) (on.1 there))) which),
    )
