use Rattle.std.proofs.Common.{◌≡◌, ◌∙◌, inl, inr, Some, None, sym, ap, ⊎_elim}
use Rattle.metadata_cells.specs.CellPage.{home_of}
use Rattle.cell_chains.proofs.astray.insert_astray.Goals as goal

some_same : {X : Type 0} (a b : X) → Some a ≡ Some b → a ≡ b
some_same a b e = cc

none_some : {X : Type 0} (x : X) → None ≡ Some x → ⊥
none_some x e = cc

pub returns-in_ok-insert : goal.returns-in_ok-insert
returns-in_ok-insert c home =
    let links = c.args.links.now in
    let start = c.args.at.now in
    let end = c.in-Some.end in
    let head = c.is_head.ensures.0 c.if-not-is_head.false in
    let put = c.in_ok-insert.ensures.ok home in (
      λ is. ⊎_elim (λ before. inl before) (λ same. inr (head, (end, sym same, (c.in_ok-end.ensures end).1 c.in-Some.is))) (put.0 is),
      λ which. put.1 (⊎_elim (λ before. inl before)
          (λ (h, (at, same, astray)). inr (sym same ∙ ap home_of (some_same at end (sym ((c.in_ok-end.ensures at).0 astray) ∙ c.in-Some.is)))) which),
    )

pub returns-in_default : goal.returns-in_default
returns-in_default c home = (
  λ is. inl is,
  λ which. ⊎_elim (λ before. before)
      (λ (h, (at, same, astray)). absurd (none_some at (sym c.in_default.is ∙ (c.in_ok-end.ensures at).0 astray))) which,
)
