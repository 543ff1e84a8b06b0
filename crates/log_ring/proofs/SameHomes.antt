-- Which homes are the same, and whether a home is among others.
use Rattle.std.proofs.Common.{◌≡◌, ℕ, zero, suc, ◌<◌, ◌||◌, Bool, true, false, nat_eq, List, [], ◌∷◌, length, get_or, drop, refl, sym, ◌∙◌, ap, subst, arith}
use Rattle.std.proofs.lemmas.Bool.{and_from, and_parts, eqb-true, eq-eqb, both_ways, false_from_ne_true}
use Rattle.std.specs.List.{list_any}
use Rattle.disk_label.specs.domain_base.declared.place.Home.{Home}
use Rattle.page_store.specs.Pages.{same_home}
use Rattle.log_ring.specs.Images.{AreDistinct}

same_vol_page : (a b : Home) → a.vol ≡ b.vol → a.page ≡ b.page → a ≡ b
same_vol_page a b vol page = λ i. record { vol = vol i; page = page i }

pub homes_same : (a b : Home) → same_home a b ≡ true → a ≡ b
homes_same a b same = let both = and_parts (nat_eq a.vol b.vol) (nat_eq a.page b.page) same in same_vol_page a b (eqb-true a.vol b.vol both.0) (eqb-true a.page b.page both.1)

pub same_itself : (a : Home) → same_home a a ≡ true
same_itself a = and_from (nat_eq a.vol a.vol) (nat_eq a.page a.page) (eq-eqb a.vol a.vol refl) (eq-eqb a.page a.page refl)

pub same_from_is : (a b : Home) → a ≡ b → same_home a b ≡ true
same_from_is a b is = subst (λ (h : Home). same_home a h ≡ true) is (same_itself a)

pub other_swapped : (a b : Home) → same_home a b ≡ false → same_home b a ≡ false
other_swapped a b other = false_from_ne_true (same_home b a) (λ same. both_ways (same_home a b) other (same_from_is a b (sym (homes_same b a same))))

-- a home is there if one of the homes after it is the same
pub any-at : (home : Home) (homes : List Home) (i : ℕ) (d : Home) → i < length homes → same_home home (get_or homes i d) ≡ true → list_any (same_home home) homes ≡ true
any-at home [] i d lt same = absurd (omega arith)
any-at home (h ∷ homes) zero d lt same = rw same refl
any-at home (h ∷ homes) (suc i) d lt same = let rest = any-at home homes i d (omega arith) same in rw rest (or_true (same_home home h))
  where
    or_true : (b : Bool) → (b || true) ≡ true
    or_true true = refl
    or_true false = refl

-- distinct homes from one of them on are distinct
pub AreDistinct-drop : (homes : List Home) (i : ℕ) → AreDistinct homes → AreDistinct (drop i homes)
AreDistinct-drop homes zero distinct = distinct
AreDistinct-drop [] (suc i) distinct = tt
AreDistinct-drop (h ∷ homes) (suc i) distinct = AreDistinct-drop homes i distinct.1

-- homes are not distinct where one of them is met again
pub met_again : (homes : List Home) (i : ℕ) (home : Home) → i < length homes → home ≡ get_or homes i home → list_any (same_home home) (drop (suc i) homes) ≡ true → AreDistinct homes → ⊥
met_again [] i home lt is met distinct = absurd (omega (arith, lt))
met_again (h ∷ homes) zero home lt is met distinct = both_ways (list_any (same_home h) homes) distinct.0 (ap (λ (x : Home). list_any (same_home x) homes) (sym is) ∙ met)
met_again (h ∷ homes) (suc i) home lt is met distinct = met_again homes i home (omega (arith, lt)) is met distinct.1
