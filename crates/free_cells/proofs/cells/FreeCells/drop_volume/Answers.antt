use Rattle.std.proofs.Common.{◌≡◌, ◌⊎◌, inl, inr, ℕ, Bool, true, false, not, ◌&&◌, cond, nat_eq, List, [], ◌∙◌, sym, arith}
use Rattle.std.proofs.lemmas.Bool.{true≢false}
use Rattle.std.proofs.lemmas.Grind.{common_steps}
use Rattle.free_cells.proofs.Belongs.{belong_fewer}
use Rattle.free_cells.proofs.cells.FreeCells.drop_volume.Goals as goal

none_or_same : (b : Bool) (table now : List ℕ) → now ≡ cond b [] table → (now ≡ table) ⊎ (now ≡ [])
none_or_same true table now is = inr is
none_or_same false table now is = inl is

on_others : (b was : Bool) (table now : List ℕ) → now ≡ cond b [] table → (not b && was) ≡ true → (was ≡ true) × (now ≡ table)
on_others true was table now is free = absurd (true≢false (sym free))
on_others false was table now is free = (free, is)

pub returns-clause-value : goal.returns-clause-value
returns-clause-value c = grind (arith, common_steps)

pub returns-clause-belong : goal.returns-clause-belong
returns-clause-belong c =
    let value = returns-clause-value c in
    belong_fewer _ _ (λ vol. none_or_same (nat_eq vol c.args.vol) _ _ (value.tables vol))
    (λ at free. on_others (nat_eq at.vol c.args.vol) _ _ _ (value.tables at.vol) (sym (value.cells at) ∙ free))
