-- Lists of homes, and what is among them.
use Rattle.std.proofs.Common.{◌≡◌, ◌∙◌, zero, suc, Bool, true, false, List, [], ◌∷◌, Contains, refl, sym, subst, arith, ⊎_elim}
use Rattle.std.proofs.lemmas.Bool.{true≢false}
use Rattle.std.proofs.lemmas.List.Elements.{Contains-append_cases, Contains-append_left, Contains-append_right}
use Rattle.std.proofs.lemmas.Map.Made.{is_member-Decides}
use Rattle.std.specs.Bool.{Decides}
use Rattle.std.specs.List.{flat_map}
use Rattle.std.specs.Set.{is_member}
use Rattle.no_faults.specs.domain_base.declared.place.Home.{Home}
use Rattle.no_faults.specs.page_store.Pages.{same_home}
use Rattle.no_faults.proofs.OfMetadataCells.Changed.{homes_same, same_itself}

-- ---- lists of lists

pub listed_in : {X A : Type 0} (f : X → List A) (xs : List X) (x : X) (a : A) → Contains xs x → Contains (f x) a → Contains (flat_map f xs) a
listed_in f [] x a (k, within, is) there = absurd (omega (arith, within))
listed_in f (y ∷ ys) x a (zero, within, is) there = Contains-append_left (f y) (flat_map f ys) a (subst (λ z. Contains (f z) a) (sym is) there)
listed_in f (y ∷ ys) x a (suc k, within, is) there = Contains-append_right (f y) (flat_map f ys) a (listed_in f ys x a (k, omega (arith, within), is) there)

-- where something stands in such a list
pub record IsIn {X A : Type 0} (f : X → List A) (xs : List X) (a : A) : Type 0 where
  pub of : X
  pub among : Contains xs of
  pub there : Contains (f of) a

pub found_in : {X A : Type 0} (f : X → List A) (xs : List X) (a : A) → Contains (flat_map f xs) a → IsIn f xs a
found_in f [] a (k, within, is) = absurd (omega (arith, within))
found_in f (y ∷ ys) a listed = ⊎_elim
    (λ here. record { of = y; among = (0, omega arith, refl); there = here })
    (λ later. let rest = found_in f ys a later in record { of = rest.of; among = Contains-append_right (y ∷ []) ys rest.of rest.among; there = rest.there })
    (Contains-append_cases (f y) (flat_map f ys) a listed)

-- ---- homes

decided : (a b : Home) → Decides (same_home a b) (a ≡ b)
decided a b = (homes_same a b, λ same. subst (λ h. same_home a h ≡ true) same (same_itself a))

abbrev pub is_among : List Home → Home → Bool
is_among homes home = is_member same_home homes home

pub among_true : (homes : List Home) (home : Home) → is_among homes home ≡ true → Contains homes home
among_true homes home = (is_member-Decides decided homes home).0

pub among_false : (homes : List Home) (home : Home) → is_among homes home ≡ false → ¬ Contains homes home
among_false homes home none there = absurd (true≢false (sym ((is_member-Decides decided homes home).1 there) ∙ none))
