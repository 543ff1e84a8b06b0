-- Homes that are the same.
use Rattle.std.proofs.Common.{◌≡◌, true, nat_eq, refl}
use Rattle.std.proofs.lemmas.Bool.{and_from, and_parts, eq-eqb, eqb-true}
use Rattle.page_cache.specs.domain_base.declared.place.Home.{Home}
use Rattle.page_cache.specs.page_store.Pages.{same_home}

pub homes_same : (a b : Home) → same_home a b ≡ true → a ≡ b
homes_same a b same =
    let both = and_parts (nat_eq a.vol b.vol) (nat_eq a.page b.page) same in
    let vol = eqb-true a.vol b.vol both.0 in
    let page = eqb-true a.page b.page both.1 in
    λ i. record { vol = vol i; page = page i }

pub same_itself : (a : Home) → same_home a a ≡ true
same_itself a = and_from (nat_eq a.vol a.vol) (nat_eq a.page a.page) (eq-eqb a.vol a.vol refl) (eq-eqb a.page a.page refl)
