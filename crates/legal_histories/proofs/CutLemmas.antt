-- Bytes of a file after a cut.
use Rattle.std.proofs.Common.{◌≡◌, ◌≢◌, ℕ, ◌-◌, ◌*◌, ◌/◌, ◌%◌, ◌<◌, ◌≤◌, true, false, cond, List, length, Option, Some, None, refl, sym, ap, ◌∙◌, arith, nat_lt}
use Rattle.std.proofs.lemmas.Bool.{le-ltb, lt-ltb, ltb-true, ltb-false}
use Rattle.std.specs.Option.{option_map_or}
use Rattle.std.specs.Cmp.{nat_cmp_total}
use Rattle.std.specs.FinMap as map
use Rattle.std.specs.Prelude.{slice_index}
use Rattle.fileset_model.specs.domain_base.Page.{overwritten, zero_bytes, length-zero_bytes, slice_index-zero_bytes}
use Rattle.fileset_model.specs.Pages.{Pages, byte_at, truncated}
use Rattle.fileset_model.proofs.OfFilesetValues.MapLemmas.{get-insert_same, get-insert_other}
use Rattle.legal_histories.specs.WholePages.{AreWhole}
use Rattle.legal_histories.proofs.ByteLemmas.{overwritten-before, overwritten-within}

-- the pages that begin below a size
abbrev kept : Pages → ℕ → Pages
kept pages size = map.retain_keys pages (λ q. nat_lt (q * 8192) size)

get-kept : (pages : Pages) (size q : ℕ) → map.get (kept pages size) q ≡ cond (nat_lt (q * 8192) size) (map.get pages q) None
get-kept pages size q = map.get-retain_keys pages (λ q. nat_lt (q * 8192) size) q (λ x tied. ap (λ q. nat_lt (q * 8192) size) (sym (map.nat_cmp-IsAntisymmetric q x tied)))

-- the page with zeros from the cut on
abbrev cut_page : ℕ → List ℕ → List ℕ
cut_page size page = overwritten page (size % 8192) (zero_bytes (8192 - size % 8192))

-- what a cut leaves at a page, if the cut lies in it and if it lies elsewhere
cut-here : (pages : Pages) (size : ℕ) → map.get (truncated pages size) (size / 8192) ≡ option_map_or (λ page. Some (cut_page size page)) (map.get (kept pages size) (size / 8192)) None
cut-here pages size = elim (map.get (kept pages size) (size / 8192)) as (λ o. map.get (kept pages size) (size / 8192) ≡ o
    → map.get (option_map_or (λ page. map.insert (kept pages size) (size / 8192) (cut_page size page)) o (kept pages size)) (size / 8192) ≡ option_map_or (λ page. Some (cut_page size page)) o None) [
      | None ↦ λ is. is
      | Some page ↦ λ is. get-insert_same nat_cmp_total map.nat_cmp-IsAntisymmetric (kept pages size) (size / 8192) (cut_page size page)
    ] refl

cut-elsewhere : (pages : Pages) (size q : ℕ) → q ≢ size / 8192 → map.get (truncated pages size) q ≡ map.get (kept pages size) q
cut-elsewhere pages size q differ = elim (map.get (kept pages size) (size / 8192)) as (λ o.
    map.get (option_map_or (λ page. map.insert (kept pages size) (size / 8192) (cut_page size page)) o (kept pages size)) q ≡ map.get (kept pages size) q) [
      | None ↦ refl
      | Some page ↦ get-insert_other nat_cmp_total map.nat_cmp-IsAntisymmetric (kept pages size) (size / 8192) (cut_page size page) q differ
    ]

abbrev byte_in : ℕ → Option (List ℕ) → ℕ
byte_in y page = option_map_or (λ page. slice_index page y) page 0

module _ (pages : Pages) (size x : ℕ) (whole : AreWhole pages) where
  -- the page of the byte, as a cut elsewhere leaves it
  elsewhere : x / 8192 ≢ size / 8192 → byte_at (truncated pages size) x ≡ byte_in (x % 8192) (cond (nat_lt (x / 8192 * 8192) size) (map.get pages (x / 8192)) None)
  elsewhere differ = ap (byte_in (x % 8192)) (cut-elsewhere pages size (x / 8192) differ ∙ get-kept pages size (x / 8192))

  here : x / 8192 ≡ size / 8192 → byte_at (truncated pages size) x
      ≡ byte_in (x % 8192) (option_map_or (λ page. Some (cut_page size page)) (cond (nat_lt (x / 8192 * 8192) size) (map.get pages (x / 8192)) None) None)
  here same = ap (byte_in (x % 8192)) (ap (map.get (truncated pages size)) same ∙ cut-here pages size ∙ ap (λ o. option_map_or (λ page. Some (cut_page size page)) o None) (ap (map.get (kept pages size)) (sym same) ∙ get-kept pages size (x / 8192)))

  pub cut_below : x < size → byte_at (truncated pages size) x ≡ byte_at pages x
  cut_below below =
      let begins : nat_lt (x / 8192 * 8192) size ≡ true = lt-ltb (x / 8192 * 8192) size (omega arith) in
      elim (nat_lt (x / 8192) (size / 8192)) as (λ b. nat_lt (x / 8192) (size / 8192) ≡ b → byte_at (truncated pages size) x ≡ byte_at pages x) [
        | true ↦ λ less. elsewhere (λ same. absurd (omega (arith, same, ltb-true (x / 8192) (size / 8192) less))) ∙ ap (λ b. byte_in (x % 8192) (cond b (map.get pages (x / 8192)) None)) begins
        | false ↦ λ more.
            let same : x / 8192 ≡ size / 8192 = omega (arith, below, ltb-false (x / 8192) (size / 8192) more) in
            here same ∙ ap (λ b. byte_in (x % 8192) (option_map_or (λ page. Some (cut_page size page)) (cond b (map.get pages (x / 8192)) None) None)) begins
            ∙ elim (map.get pages (x / 8192)) as (λ o. map.get pages (x / 8192) ≡ o → byte_in (x % 8192) (option_map_or (λ page. Some (cut_page size page)) o None) ≡ byte_in (x % 8192) o) [
              | None ↦ λ is. refl
              | Some page ↦ λ is. overwritten-before page (size % 8192) (zero_bytes (8192 - size % 8192)) (x % 8192) (omega (arith, whole (x / 8192) page is)) (omega (arith, same, below))
            ] refl
      ] refl

  pub cut_behind : size ≤ x → byte_at (truncated pages size) x ≡ 0
  cut_behind behind =
      elim (nat_lt (size / 8192) (x / 8192)) as (λ b. nat_lt (size / 8192) (x / 8192) ≡ b → byte_at (truncated pages size) x ≡ 0) [
        | true ↦ λ less.
            let ends : nat_lt (x / 8192 * 8192) size ≡ false = le-ltb (x / 8192 * 8192) size (omega (arith, ltb-true (size / 8192) (x / 8192) less)) in
            elsewhere (λ same. absurd (omega (arith, same, ltb-true (size / 8192) (x / 8192) less))) ∙ ap (λ b. byte_in (x % 8192) (cond b (map.get pages (x / 8192)) None)) ends
        | false ↦ λ more.
            let same : x / 8192 ≡ size / 8192 = omega (arith, behind, ltb-false (size / 8192) (x / 8192) more) in
            here same
            ∙ elim (cond (nat_lt (x / 8192 * 8192) size) (map.get pages (x / 8192)) None) as (λ o. cond (nat_lt (x / 8192 * 8192) size) (map.get pages (x / 8192)) None ≡ o
            → byte_in (x % 8192) (option_map_or (λ page. Some (cut_page size page)) o None) ≡ 0) [
              | None ↦ λ is. refl
              | Some page ↦ λ is.
                  overwritten-within page (size % 8192) (zero_bytes (8192 - size % 8192)) (x % 8192) (omega (arith, kept-whole page is)) (omega (arith, same, behind))
                  (omega (arith, length-zero_bytes (8192 - size % 8192)))
                  ∙ slice_index-zero_bytes (8192 - size % 8192) (x % 8192 - size % 8192) (omega (arith, same, behind))
            ] refl
      ] refl
    where
      kept-whole : (page : List ℕ) → cond (nat_lt (x / 8192 * 8192) size) (map.get pages (x / 8192)) None ≡ Some page → length page ≡ 8192
      kept-whole page is = elim (nat_lt (x / 8192 * 8192) size) as (λ b. cond b (map.get pages (x / 8192)) None ≡ Some page → length page ≡ 8192) [
        | true ↦ λ found. whole (x / 8192) page found
        | false ↦ λ found. absurd (cc)
      ] is
