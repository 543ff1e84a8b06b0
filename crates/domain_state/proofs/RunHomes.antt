-- The homes of pages in a row, and of the first pages of volumes.
use Rattle.std.proofs.Common.{◌≡◌, ◌∙◌, ℕ, zero, suc, ◌+◌, ◌*◌, ◌<◌, ◌≤◌, List, [], ◌∷◌, length, Contains, refl, sym, ap, arith, ⊎_elim}
use Rattle.std.proofs.lemmas.Bool.{cases_lt}
use Rattle.std.proofs.lemmas.List.{length-append}
use Rattle.std.proofs.lemmas.List.Concat.{flat_map-cons}
use Rattle.std.proofs.lemmas.List.Elements.{Contains-append_right}
use Rattle.std.specs.List.{flat_map}
use Rattle.no_faults.specs.domain_base.Version.{bitmap_pages, most_pages}
use Rattle.no_faults.specs.domain_base.declared.place.Home.{Home}
use Rattle.no_faults.specs.domain_base.declared.version.Version.{Version}
use Rattle.no_faults.specs.domain_base.declared.version.Version.TheVariants.{Four, Three}

-- so many pages of a volume from one on
pub run_homes : ℕ → ℕ → ℕ → List Home
run_homes vol first zero = []
run_homes vol first (suc n) = record { vol = vol; page = first + n } ∷ run_homes vol first n

pub run_length : (vol first n : ℕ) → length (run_homes vol first n) ≡ n
unfolding run_homes
run_length vol first zero = refl
run_length vol first (suc n) = ap suc (run_length vol first n)

pub run_among : (vol first n : ℕ) (home : Home) → home.vol ≡ vol → first ≤ home.page → home.page < first + n → Contains (run_homes vol first n) home
unfolding run_homes
run_among vol first zero home on low high = absurd (omega (arith, low, high))
run_among vol first (suc n) home on low high =
    ⊎_elim (λ less. Contains-append_right (record { vol = vol; page = first + n } ∷ []) (run_homes vol first n) home (run_among vol first n home on low less))
    (λ last. let page : home.page ≡ first + n = omega (arith, last, high) in (0, omega arith, λ i. record { vol = sym on i; page = sym page i })) (cases_lt home.page (first + n))

-- the first 18 pages of each of these volumes
pub firsts_length : {X : Type 0} (vol : X → ℕ) (xs : List X) → length (flat_map (λ x. run_homes (vol x) 0 18) xs) ≡ 18 * length xs
firsts_length vol [] = omega arith
firsts_length vol (x ∷ xs) =
    let rest = firsts_length vol xs in
    let all = ap length (flat_map-cons (λ y. run_homes (vol y) 0 18) x xs) ∙ length-append (run_homes (vol x) 0 18) (flat_map (λ y. run_homes (vol y) 0 18) xs) in
    omega (arith, rest, all, run_length (vol x) 0 18)

-- a bitmap has 16 pages at most
pub few_bitmaps : (version : Version) (pages : ℕ) → pages ≤ most_pages version → bitmap_pages version pages ≤ 16
few_bitmaps Three pages most = omega arith
few_bitmaps Four pages most = omega (arith, most)
