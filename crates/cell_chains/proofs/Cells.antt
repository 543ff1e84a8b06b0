-- Whether two cells are one.
use Rattle.std.proofs.Common.{◌≡◌, ◌∙◌, ◌⊎◌, inl, inr, ℕ, true, false, Some, ap, arith, ◌&&◌, ◌==◌}
use Rattle.std.proofs.lemmas.Bool.{cases_lt}
use Rattle.std.proofs.lemmas.Bool.Decides.{nat_tests}
use Rattle.metadata_cells.specs.domain_base.declared.place.CellAt.{CellAt}
use Rattle.metadata_cells.specs.Chain.{is_at, key_of}
use Rattle.cell_chains.specs.Links.{HasLink}
use Rattle.cell_chains.specs.declared.links.CellLink.{CellLink}
use Rattle.cell_chains.specs.declared.links.CellLinks.{CellLinks}

same_number : (m n : ℕ) → (m ≡ n) ⊎ (¬ m ≡ n)
same_number m n = elim (cases_lt m n) [
  | inl less ↦ inr (λ e. omega (arith, less, e))
  | inr least ↦ elim (cases_lt n m) [ inl more ↦ inr (λ e. omega (arith, more, e)) | inr most ↦ inl (omega (arith, least, most)) ]
]

pub same_cell : (a b : CellAt) → (a ≡ b) ⊎ (¬ a ≡ b)
same_cell a b = elim (same_number a.vol b.vol) [
  | inr other ↦ inr (λ e. other (ap (λ (c : CellAt). c.vol) e))
  | inl vols ↦ elim (same_number a.page b.page) [
    | inr other ↦ inr (λ e. other (ap (λ (c : CellAt). c.page) e))
    | inl at ↦ elim (same_number a.cell b.cell) [
      | inr other ↦ inr (λ e. other (ap (λ (c : CellAt). c.cell) e))
      | inl cells ↦ inl (λ i. record { vol = vols i; page = at i; cell = cells i })
    ]
  ]
]

both_true : (n : ℕ) → (n == n) ≡ true
both_true n = grind (arith, nat_tests)

pub at_itself : (a : CellAt) → is_at a a ≡ true
at_itself a = ap (λ b. b && ((a.page == a.page) && (a.cell == a.cell))) (both_true a.vol) ∙ ap (λ b. b && (a.cell == a.cell)) (both_true a.page) ∙ both_true a.cell

pub at_same : (a b : CellAt) → is_at a b ≡ true → a ≡ b
at_same a b same =
    let vol : a.vol ≡ b.vol = grind (arith, nat_tests) in
    let page : a.page ≡ b.page = grind (arith, nat_tests) in
    let cell : a.cell ≡ b.cell = grind (arith, nat_tests) in
    (λ i. record { vol = vol i; page = page i; cell = cell i })

pub apart_of : (m n : ℕ) → (m == n) ≡ false → ¬ m ≡ n
apart_of m n other same = absurd (grind (arith, nat_tests))

some_same : {X : Type 0} (a b : X) → Some a ≡ Some b → a ≡ b
some_same a b e = cc

-- cells in use under one number are one
pub one_key : (links : CellLinks) (a b : CellAt) (one other : CellLink) → HasLink links a one → HasLink links b other → key_of a ≡ key_of b → a ≡ b
one_key links a b one other in_a in_b same =
    let both : Some (a, one) ≡ Some (b, other) = cc in
    ap (λ (p : CellAt × CellLink). p.0) (some_same {X = CellAt × CellLink} (a, one) (b, other) both)
