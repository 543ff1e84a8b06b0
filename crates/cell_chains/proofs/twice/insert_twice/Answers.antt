use Rattle.std.proofs.Common.{inl, inr, List, sym, subst, ⊎_elim}
use Rattle.metadata_cells.specs.domain_base.declared.place.CellAt.{CellAt}
use Rattle.cell_chains.specs.Says.{SaysAgain}
use Rattle.cell_chains.proofs.twice.insert_twice.Goals as goal

pub returns-in_ok-look_along : goal.returns-in_ok-look_along
returns-in_ok-look_along g c home =
    let pages = g.M.MetaPages.pages c.args.pages.now in
    let what = c.args.what in
    let lists = c.in_ok-cells.ensures in
    let put = c.in_ok-look_along.ensures home in
    let same = c.deref.ensures.value in (
      λ is. ⊎_elim (λ was. inl was)
          (λ again.
          let (passed, at, listed, on, before, among, says) = subst (λ (l : List CellAt). SaysAgain pages what l home) same again in
          let there = (lists passed at).1 listed in
          inr (c.asks.ensures.0 c.if-asks.true, c.is_head.ensures.0 c.if-is_head.true, (at, on, (passed, there.0, there.1, before, among, says))))
          (put.0 is),
      λ which. put.1 (⊎_elim (λ was. inl was)
          (λ (asked, head, (at, on, (passed, link, follows, before, among, says))).
          inr (subst (λ (l : List CellAt). SaysAgain pages what l home) (sym same) (passed, at, (lists passed at).0 (link, follows), on, before, among, says))) which),
    )
