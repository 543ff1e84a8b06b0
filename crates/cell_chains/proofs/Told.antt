-- What is told of sets of cells.
use Rattle.std.proofs.Common.{◌≡◌, ◌∙◌, ◌⊎◌, ◌↔◌, inl, inr, true, false, Option, Some, None, if◌then◌else◌, refl, sym, ap, subst, ⊎_elim}
use mathlib.Core.Bool.{false≢true}
use Rattle.metadata_cells.specs.domain_base.declared.place.CellAt.{CellAt}
use Rattle.metadata_cells.specs.Chain.{is_at}
use Rattle.cell_chains.specs.Starts.{Differ, Tells, joined, with_start}
use Rattle.cell_chains.specs.declared.starts.Starts.{Starts}
use Rattle.cell_chains.specs.declared.starts.Starts.TheVariants.{One, Several}
use Rattle.cell_chains.proofs.Cells.{at_itself, at_same, same_cell}

module _ (S T : CellAt → Type 0) where
  -- sets with the same cells
  pub tells_same : ((at : CellAt) → S at ↔ T at) → (told : Option Starts) → Tells told S → Tells told T
  tells_same same None none = λ at has. none at ((same at).1 has)
  tells_same same (Some (One start)) one = λ at. ((λ has. (one at).0 ((same at).1 has)), (λ is. (same at).0 ((one at).1 is)))
  tells_same same (Some Several) (a, b, in_a, in_b, apart) = (a, b, (same a).0 in_a, (same b).0 in_b, apart)

  abbrev Either : CellAt → Type 0
  Either at = S at ⊎ T at

  two_ones : (start other : CellAt) → Tells (Some (One start)) S → Tells (Some (One other)) T → Tells (Some (with_start start (One other))) Either
  two_ones start other one another = elim (is_at start other) as (λ b. is_at start other ≡ b → Tells (Some (if b then One start else Several)) Either) [
    | true ↦ λ same at. (
      λ has. ⊎_elim (λ s. (one at).0 s) (λ t. (another at).0 t ∙ sym (at_same start other same)) has,
      λ is. inl ((one at).1 is),
    )
    | false ↦ λ apart. (
      start,
      other,
      inl ((one start).1 refl),
      inr ((another other).1 refl),
      λ e. false≢true (sym apart ∙ subst (λ (o : CellAt). is_at start o ≡ true) e (at_itself start)),
    )
  ] refl

  -- two sets joined
  pub tells_joined : (told : Option Starts) (more : Starts) → Tells told S → Tells (Some more) T → Tells (Some (joined told more)) Either
  tells_joined None (One start) none one = λ at. ((λ has. ⊎_elim (λ s. absurd (none at s)) (λ t. (one at).0 t) has), (λ is. inr ((one at).1 is)))
  tells_joined None Several none (a, b, in_a, in_b, apart) = (a, b, inr in_a, inr in_b, apart)
  tells_joined (Some (One start)) (One other) one another = two_ones start other one another
  tells_joined (Some (One start)) Several one (a, b, in_a, in_b, apart) = (a, b, inr in_a, inr in_b, apart)
  tells_joined (Some Several) more (a, b, in_a, in_b, apart) others = (a, b, inl in_a, inl in_b, apart)

  -- some cell of one set is none of the other
  pub differ_to : (told : Option Starts) (more : Starts) → Tells told S → Tells (Some more) T → Differ told more → (s : CellAt) × (t : CellAt) × S s × T t × ¬ s ≡ t
  differ_to None more none others differ = absurd differ
  differ_to (Some (One start)) (One other) one another apart = (start, other, (one start).1 refl, (another other).1 refl, apart)
  differ_to (Some (One start)) Several one (a, b, in_a, in_b, apart) differ =
      ⊎_elim (λ same. (start, b, (one start).1 refl, in_b, (λ e. apart (sym same ∙ e)))) (λ off. (start, a, (one start).1 refl, in_a, off)) (same_cell start a)
  differ_to (Some Several) (One other) (a, b, in_a, in_b, apart) another differ =
      ⊎_elim (λ same. (b, other, in_b, (another other).1 refl, (λ e. apart (same ∙ sym e)))) (λ off. (a, other, in_a, (another other).1 refl, off)) (same_cell a other)
  differ_to (Some Several) Several (a, b, in_a, in_b, apart) (c, d, in_c, in_d, off) differ =
      ⊎_elim (λ same. (b, c, in_b, in_c, (λ e. apart (same ∙ sym e)))) (λ away. (a, c, in_a, in_c, away)) (same_cell a c)

  pub differ_from : (told : Option Starts) (more : Starts) → Tells told S → Tells (Some more) T → (s t : CellAt) → S s → T t → ¬ s ≡ t → Differ told more
  differ_from None more none others s t in_s in_t apart = absurd (none s in_s)
  differ_from (Some (One start)) (One other) one another s t in_s in_t apart = λ e. apart ((one s).0 in_s ∙ e ∙ sym ((another t).0 in_t))
  differ_from (Some (One start)) Several one others s t in_s in_t apart = tt
  differ_from (Some Several) more several others s t in_s in_t apart = tt

-- a cell that was joined once may be joined again
pub joined_again : (told : Option Starts) (start : CellAt) → joined (Some (joined told (One start))) (One start) ≡ joined told (One start)
joined_again None start = ap (λ b. if b then One start else Several) (at_itself start)
joined_again (Some (One other)) start = elim (is_at other start) as (λ b. is_at other start ≡ b → joined (Some (if b then One other else Several)) (One start) ≡ (if b then One other else Several)) [
  | true ↦ λ same. ap (λ b. if b then One other else Several) same
  | false ↦ λ apart. refl
] refl
joined_again (Some Several) start = refl

-- a set that has a cell is told
pub told_some : (S : CellAt → Type 0) (told : Option Starts) → Tells told S → (at : CellAt) → S at → (starts : Starts) × (told ≡ Some starts)
told_some S None none at has = absurd (none at has)
told_some S (Some starts) tells at has = (starts, refl)
