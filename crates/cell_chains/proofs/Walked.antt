-- The cells of a chain that is walked.
use Rattle.std.proofs.Common.{◌≡◌, ◌⊎◌, ◌↔◌, inl, inr, zero, suc, List, refl, ap, [], ◌∷◌, ◌++◌, Contains, sym, subst, arith, ⊎_elim}
use Rattle.std.proofs.lemmas.List.Elements.{Contains-append_left, Contains-append_right, Contains-push, Contains-push_cases}
use Rattle.metadata_cells.specs.domain_base.declared.place.CellAt.{CellAt}
use Rattle.cell_chains.specs.Chains.{IsOnChain, ListsChain}
use Rattle.cell_chains.specs.declared.links.CellLinks.{CellLinks}
use Rattle.cell_chains.specs.Members.{IsIn}
use Rattle.cell_chains.specs.declared.set.CellSet.{CellSet}

pub none_in : (at : CellAt) → ¬ Contains {X = CellAt} [] at
none_in at (k, within, is) = absurd (omega (arith, within))

-- what a list has stands in it behind some and in front of others
parted : (cells : List CellAt) (at : CellAt) → Contains cells at → (passed : List CellAt) × (rest : List CellAt) × (cells ≡ passed ++ at ∷ rest)
parted [] at (k, within, is) = absurd (omega (arith, within))
parted (x ∷ xs) at (zero, within, is) = ([], xs, ap (λ y. y ∷ xs) is)
parted (x ∷ xs) at (suc k, within, is) = let more = parted xs at (k, omega (arith, within), is) in (x ∷ more.0, more.1, ap (λ l. x ∷ l) more.2)

-- a cell is on the chain exactly where the list of the chain has it
pub listed_is_on : (links : CellLinks) (start : CellAt) (cells : List CellAt) → ListsChain links start cells → (at : CellAt) → Contains cells at ↔ IsOnChain links start at
listed_is_on links start cells lists at = (
  λ among. let part = parted cells at among in let there = (lists part.0 at).1 (part.1, part.2) in (part.0, there.0, there.1),
  λ (passed, link, follows). let is = (lists passed at).0 (link, follows) in subst (λ l. Contains l at) (sym is.1) (Contains-append_right passed (at ∷ is.0) at (0, omega arith, refl)),
)

-- the cells that were seen are those that were passed, with one more of each
pub seen_more : (seen new : CellSet) (passed : List CellAt) (at : CellAt) → ((one : CellAt) → IsIn seen one ↔ Contains passed one) → ((one : CellAt) → IsIn new one ↔ (IsIn seen one ⊎ (one ≡ at)))
    → (one : CellAt) → IsIn new one ↔ Contains (passed ++ at ∷ []) one
seen_more seen new passed at same put one = (
  λ there. ⊎_elim (λ before. Contains-append_left passed (at ∷ []) one ((same one).0 before)) (λ last. subst (Contains (passed ++ at ∷ [])) (sym last) (Contains-push passed at)) ((put one).0 there),
  λ among. (put one).1 (⊎_elim (λ before. inl ((same one).1 before)) (λ last. inr (sym last)) (Contains-push_cases passed at one among)),
)
