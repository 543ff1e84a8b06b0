use Rattle.std.proofs.Common.{◌≡◌, List, [], ◌∷◌, ℕ, length, get_or, refl, sym, arith}
use Rattle.cell_records.proofs.writing.put_stripe.Goals as goal

-- eight numbers, each by its place
eight : (vs : List ℕ) → length vs ≡ 8 → get_or vs 0 0 ∷ get_or vs 1 0 ∷ get_or vs 2 0 ∷ get_or vs 3 0 ∷ get_or vs 4 0 ∷ get_or vs 5 0 ∷ get_or vs 6 0 ∷ get_or vs 7 0 ∷ [] ≡ vs
eight [] len = absurd (omega arith)
eight (a ∷ []) len = absurd (omega arith)
eight (a ∷ b ∷ []) len = absurd (omega arith)
eight (a ∷ b ∷ c ∷ []) len = absurd (omega arith)
eight (a ∷ b ∷ c ∷ d ∷ []) len = absurd (omega arith)
eight (a ∷ b ∷ c ∷ d ∷ e ∷ []) len = absurd (omega arith)
eight (a ∷ b ∷ c ∷ d ∷ e ∷ f ∷ []) len = absurd (omega arith)
eight (a ∷ b ∷ c ∷ d ∷ e ∷ f ∷ g ∷ []) len = absurd (omega arith)
eight (a ∷ b ∷ c ∷ d ∷ e ∷ f ∷ g ∷ h ∷ []) len = refl
eight (a ∷ b ∷ c ∷ d ∷ e ∷ f ∷ g ∷ h ∷ i ∷ vs) len = absurd (omega arith)

pub returns : goal.returns
returns c = let volumes = sym (eight c.args.vols.now c.requires.eight) in rw volumes c.put.ensures
