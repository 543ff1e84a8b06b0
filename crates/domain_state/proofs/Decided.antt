-- Facts that are decided.
use Rattle.std.proofs.Common.{◌≡◌, ◌∙◌, ◌⊎◌, inl, inr, ℕ, ◌<◌, ◌≤◌, Bool, true, false, Option, Some, None, refl, sym, ap, arith, ⊎_elim}
use Rattle.std.proofs.lemmas.Bool.{cases_Bool, cases_lt, true≢false}
use Rattle.no_faults.specs.domain_base.declared.place.Home.{Home}
use Rattle.no_faults.specs.page_store.Pages.{same_home}
use Rattle.no_faults.proofs.OfMetadataCells.Changed.{homes_same, same_itself}
use Rattle.no_faults.proofs.OfDomainLayout.OnePage.{some_same}

abbrev pub Decided : Type 0 → Type 0
Decided P = P ⊎ ¬ P

module _ {P Q : Type 0} where
  pub both : Decided P → Decided Q → Decided (P × Q)
  both p q = ⊎_elim (λ here. ⊎_elim (λ there. inl (here, there)) (λ away. inr (λ of. away of.1)) q) (λ away. inr (λ of. away of.0)) p

  pub either : Decided P → Decided Q → Decided (P ⊎ Q)
  either p q = ⊎_elim (λ here. inl (inl here)) (λ away. ⊎_elim (λ here. inl (inr here)) (λ gone. inr (λ of. ⊎_elim away gone of)) q) p

  pub same_as : (P → Q) → (Q → P) → Decided P → Decided Q
  same_as to from p = ⊎_elim (λ here. inl (to here)) (λ away. inr (λ there. away (from there))) p

module _ {P : Type 0} where
  pub not_so : Decided P → Decided (¬ P)
  not_so p = ⊎_elim (λ here. inr (λ away. away here)) (λ away. inl away) p

  -- what is not false is true
  pub stands_so : Decided P → ¬ ¬ P → P
  stands_so p held = ⊎_elim (λ here. here) (λ away. absurd (held away)) p

  -- the answer
  pub answer : Decided P → Bool
  answer (inl here) = true
  answer (inr away) = false

  pub answered : (p : Decided P) → answer p ≡ true → P
  unfolding answer
  answered (inl here) is = here
  answered (inr away) is = absurd (true≢false (sym is))

  pub answers : (p : Decided P) → P → answer p ≡ true
  unfolding answer
  answers (inl here) so = refl
  answers (inr away) so = absurd (away so)

pub less : (a b : ℕ) → Decided (a < b)
less a b = ⊎_elim (λ low. inl low) (λ high. inr (λ low. omega (arith, low, high))) (cases_lt a b)

pub at_most : (a b : ℕ) → Decided (a ≤ b)
at_most a b = ⊎_elim (λ low. inr (λ high. omega (arith, low, high))) (λ high. inl high) (cases_lt b a)

pub one_number : (a b : ℕ) → Decided (a ≡ b)
one_number a b = same_as (λ (both : (a ≤ b) × (b ≤ a)). omega (arith, both.0, both.1)) (λ same. (omega (arith, same), omega (arith, same))) (both (at_most a b) (at_most b a))

pub is_true : (b : Bool) → Decided (b ≡ true)
is_true b = ⊎_elim (λ is. inl is) (λ is. inr (λ other. true≢false (sym other ∙ is))) (cases_Bool b)

pub one_home : (a b : Home) → Decided (a ≡ b)
one_home a b = same_as (homes_same a b) (λ same. ap (same_home a) (sym same) ∙ same_itself a) (is_true (same_home a b))

pub is_there : (o : Option Home) (home : Home) → Decided (o ≡ Some home)
is_there None home = inr (λ same. cc)
is_there (Some there) home = same_as (λ same. ap Some same) (some_same there home) (one_home there home)
