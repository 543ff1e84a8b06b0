-- Where a chain has one cell less, all but one of its cells are left.
use Rattle.std.proofs.Common.{◌≡◌, ◌∙◌, zero, suc, ◌+◌, ◌≤◌, List, [], ◌∷◌, ◌++◌, length, Contains, refl, sym, ap, subst, arith}
use Rattle.standing_laws.specs.domain_base.declared.place.CellAt.{CellAt}
use Rattle.standing_laws.specs.metadata_cells.Cell.{Cell}
use Rattle.standing_laws.specs.metadata_cells.Chain.{AreDistinct, PlacedCell, places}
use Rattle.standing_laws.proofs.OfFileChains.ChainChanges.{in_first, in_later}
use Rattle.standing_laws.proofs.OfFileRelease.Chains.{in_less}

-- a chain is those in front of a cell, the cell, and those behind it
record IsSplit (cs : List PlacedCell) (a : CellAt) : Type 0 where
  front : List PlacedCell
  c : PlacedCell
  rest : List PlacedCell
  all : cs ≡ front ++ c ∷ rest
  at : c.at ≡ a

split : (cs : List PlacedCell) (a : CellAt) → Contains (places cs) a → IsSplit cs a
split [] a inside = absurd (omega (arith, inside.1))
split (c ∷ cs) a (zero, within, is) = record { front = []; c = c; rest = cs; all = refl; at = is }
split (c ∷ cs) a (suc k, within, is) =
    let s = split cs a (k, omega (arith, within), is) in
    record { front = c ∷ s.front; c = s.c; rest = s.rest; all = ap (λ (xs : List PlacedCell). c ∷ xs) s.all; at = s.at }

one_more : (front : List PlacedCell) (c : PlacedCell) (rest : List PlacedCell) → length (front ++ c ∷ rest) ≡ suc (length (front ++ rest))
one_more [] c rest = refl
one_more (x ∷ front) c rest = ap suc (one_more front c rest)

-- no more cells are among those of a chain than it has
no_more : (xs ys : List PlacedCell) → AreDistinct xs → ((a : CellAt) → Contains (places xs) a → Contains (places ys) a) → length xs ≤ length ys
no_more [] ys distinct among = omega arith
no_more (x ∷ xs) ys distinct among =
    let s = split ys x.at (among x.at (in_first x.at x xs refl)) in
    let fewer : length xs ≤ length (s.front ++ s.rest) = no_more xs (s.front ++ s.rest) distinct.1 (λ a inside.
    in_less s.front s.c s.rest a (subst (λ (cs : List PlacedCell). Contains (places cs) a) s.all (among a (in_later a x xs inside)))
    (λ same. distinct.0 (subst (Contains (places xs)) (sym same ∙ s.at) inside))) in
    let longer : length ys ≡ suc (length (s.front ++ s.rest)) = ap length s.all ∙ one_more s.front s.c s.rest in
    omega (arith, fewer, longer)

-- of a chain that has one cell less each cell but the one that is gone is left
pub all_left : (chain after : List PlacedCell) (gone : CellAt) → AreDistinct after → ((a : CellAt) → Contains (places after) a → Contains (places chain) a)
    → Contains (places chain) gone → ¬ Contains (places after) gone → length after + 1 ≡ length chain → (a : CellAt) → Contains (places chain) a → ¬ a ≡ gone → ¬ Contains (places after) a → ⊥
all_left chain after gone distinct within was lost fewer a inside apart out =
    let c = split chain gone was in
    let few : length (record { at = a; cell = c.c.cell } ∷ record { at = gone; cell = c.c.cell } ∷ after) ≤ length chain = no_more (record { at = a; cell = c.c.cell } ∷ record { at = gone; cell = c.c.cell } ∷ after) chain
    ((λ here. not_in a gone after apart out c.c.cell here), (lost, distinct)) (in_chain c.c.cell) in
    omega (arith, few, fewer)
  where
    not_in : (a gone : CellAt) (after : List PlacedCell) → ¬ a ≡ gone → ¬ Contains (places after) a → (cell : Cell) → ¬ Contains (places (record { at = gone; cell = cell } ∷ after)) a
    not_in a gone after apart out cell (zero, less, is) = apart (sym is)
    not_in a gone after apart out cell (suc k, less, is) = out (k, omega (arith, less), is)

    in_chain : (cell : Cell) (b : CellAt) → Contains (places (record { at = a; cell = cell } ∷ record { at = gone; cell = cell } ∷ after)) b → Contains (places chain) b
    in_chain cell b (zero, less, is) = subst (Contains (places chain)) is inside
    in_chain cell b (suc zero, less, is) = subst (Contains (places chain)) is was
    in_chain cell b (suc (suc k), less, is) = within b (k, omega (arith, less), is)
