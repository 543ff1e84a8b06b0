-- A file's pages stay whole where it is written or cut.
use Rattle.std.proofs.Common.{◌≡◌, ℕ, zero, suc, ◌+◌, ◌-◌, ◌*◌, ◌/◌, ◌%◌, ◌==◌, ◌<◌, ◌≤◌, nat_lt, Bool, true, false, cond, List, [], ◌++◌, map as map_each, take, drop, length, length-append, length-take, length-drop, Some, None, unwrap_or, refl, sym, ap, subst, ◌∙◌, inl, inr, arith}
use Rattle.std.specs.List.{range_with_len}
use Rattle.std.specs.Option.{option_map_or}
use Rattle.std.specs.Cmp.{nat_cmp_total}
use Rattle.std.specs.FinMap as map
use Rattle.fileset_model.specs.domain_base.Page.{length-zero_bytes, overwritten, zero_bytes}
use Rattle.fileset_model.specs.Pages.{page_after, Pages, truncated, with_pages, written}
use Rattle.fileset_model.proofs.OfFilesetValues.MapLemmas.{got-insert}
use Rattle.legal_histories.proofs.ValidLemmas.{some_inj}
use Rattle.legal_histories.proofs.ValidTreeLemmas.{some≢none}

-- a page that a file may have at this number
abbrev pub IsWhole : ℕ → List ℕ → Type 0
IsWhole q page = (q < 65536) × (length page ≡ 8192)

abbrev pub AreWhole : Pages → Type 0
AreWhole pages = (q : ℕ) (page : List ℕ) → map.get pages q ≡ Some page → IsWhole q page

insert-whole : (pages : Pages) (q : ℕ) (page : List ℕ) → AreWhole pages → IsWhole q page → AreWhole (map.insert pages q page)
insert-whole pages q page all whole r found is =
    elim (got-insert nat_cmp_total map.nat_cmp-IsAntisymmetric pages q page r _ is) as (λ _. IsWhole r found) [
      | inl here ↦ subst (λ k. IsWhole k found) (sym here.0) (subst (IsWhole q) (sym (some_inj here.1)) whole)
      | inr other ↦ all r found other.1
    ]

-- a page has as many bytes as before where what is laid over it ends within it
length-overwritten : (page bytes : List ℕ) (at : ℕ) → length page ≡ 8192 → at + length bytes ≤ 8192 → length (overwritten page at bytes) ≡ 8192
length-overwritten page bytes at long fits =
    let back = drop (at + length bytes) page in
    length-append (take at page ++ bytes) back ∙ omega (arith, length-append (take at page) bytes, length-take at page, length-drop (at + length bytes) page)

-- ---- written pages

with_range-whole : (n first : ℕ) (page : ℕ → List ℕ) (pages : Pages) → ((q : ℕ) → first ≤ q → q < first + n → IsWhole q (page q)) → AreWhole pages
    → AreWhole (with_pages (map_each (λ q. (q, page q)) (range_with_len first n)) pages)
with_range-whole zero first page pages each all = all
with_range-whole (suc n) first page pages each all =
    with_range-whole n (first + 1) page (map.insert pages first (page first)) (λ q low high. each q (omega arith) (omega arith)) (insert-whole pages first (page first) all (each first (omega arith) (omega arith)))

old_page : (pages : Pages) (q : ℕ) → AreWhole pages → length (unwrap_or (map.get pages q) (zero_bytes 8192)) ≡ 8192
old_page pages q all = elim (map.get pages q) as (λ o. map.get pages q ≡ o → length (unwrap_or o (zero_bytes 8192)) ≡ 8192) [
  | None ↦ λ is. length-zero_bytes 8192
  | Some page ↦ λ is. (all q page is).1
] refl

length-page_after : (pages : Pages) (offset : ℕ) (bytes : List ℕ) (q : ℕ) → AreWhole pages → offset < (q + 1) * 8192 → length (page_after pages offset bytes q) ≡ 8192
length-page_after pages offset bytes q all below =
    let at = offset - q * 8192 in
    let laid = take (8192 - at) (drop (q * 8192 - offset) bytes) in
    length-overwritten (unwrap_or (map.get pages q) (zero_bytes 8192)) laid at (old_page pages q all) (omega (arith, length-take (8192 - at) (drop (q * 8192 - offset) bytes)))

pub written-whole : (pages : Pages) (offset : ℕ) (bytes : List ℕ) → offset + length bytes ≤ 536870912 → AreWhole pages → AreWhole (written pages offset bytes)
written-whole pages offset bytes fits all =
    let len = length bytes in
    let first = offset / 8192 in
    let n = suc ((offset + len - 1) / 8192) - first in
    elim (len == 0) as (λ b. (len == 0) ≡ b → AreWhole (with_pages (map_each (λ q. (q, page_after pages offset bytes q)) (cond b [] (range_with_len first n))) pages)) [
      | true ↦ λ none. all
      | false ↦ λ some. with_range-whole n first (page_after pages offset bytes) pages
          (λ q low high. (omega arith, length-page_after pages offset bytes q all (omega arith))) all
    ] refl

-- ---- a cut file

pub truncated-whole : (pages : Pages) (size : ℕ) → AreWhole pages → AreWhole (truncated pages size)
truncated-whole pages size all =
    let begins_below : ℕ → Bool = λ q. nat_lt (q * 8192) size in
    let kept = map.retain_keys pages begins_below in
    let kept-whole : AreWhole kept = λ q page is.
    elim (begins_below q) as (λ b. cond b (map.get pages q) None ≡ Some page → IsWhole q page) [
      | true ↦ λ found. all q page found
      | false ↦ λ found. absurd (some≢none page (sym found))
    ] (sym (map.get-retain_keys pages begins_below q (λ x t. ap begins_below (sym (map.nat_cmp-IsAntisymmetric q x t)))) ∙ is) in
    elim (map.get kept (size / 8192)) as (λ o. map.get kept (size / 8192) ≡ o
    → AreWhole (option_map_or (λ page. map.insert kept (size / 8192) (overwritten page (size % 8192) (zero_bytes (8192 - size % 8192)))) o kept)) [
      | None ↦ λ is. kept-whole
      | Some page ↦ λ is.
          let whole = kept-whole (size / 8192) page is in
          insert-whole kept (size / 8192) (overwritten page (size % 8192) (zero_bytes (8192 - size % 8192))) kept-whole
          (whole.0, length-overwritten page (zero_bytes (8192 - size % 8192)) (size % 8192) whole.1 (omega (arith, length-zero_bytes (8192 - size % 8192))))
    ] refl
