-- Bytes of a file after a write.
use Rattle.std.proofs.Common.{◌≡◌, ◌⊎◌, ℕ, zero, suc, ◌+◌, ◌-◌, ◌*◌, ◌/◌, ◌%◌, ◌<◌, ◌≤◌, true, false, cond, min, List, [], ◌++◌, length, take, drop, map as map_each, unwrap_or, Some, None, refl, sym, ap, subst, ◌∙◌, inl, inr, arith, append_assoc, get_or, nat_lt, length-take, length-take-le}
use Rattle.std.proofs.lemmas.Bool.{eq-eqb, ltb-true, ltb-false, ne_eqb}
use Rattle.std.proofs.lemmas.List.{length-drop, get_or-take, get_or-drop, get_or_append_left, get_or-append_right}
use Rattle.std.specs.List.{range_with_len}
use Rattle.std.specs.Option.{option_map_or}
use Rattle.std.specs.Cmp.{nat_cmp_total}
use Rattle.std.specs.FinMap as map
use Rattle.std.specs.Prelude.{slice_index}
use Rattle.fileset_model.specs.domain_base.Page.{overwritten, zero_bytes, length-zero_bytes, slice_index-zero_bytes}
use Rattle.fileset_model.specs.Pages.{Pages, byte_at, page_after, with_pages, written}
use Rattle.fileset_model.proofs.OfFilesetValues.MapLemmas.{get-insert_same, get-insert_other}
use Rattle.legal_histories.specs.WholePages.{AreWhole}

-- ---- which page a byte lies in

same_page : (x : ℕ) → (x / 8192) * 8192 + x % 8192 ≡ x
same_page x = omega arith

rest_small : (x : ℕ) → x % 8192 < 8192
rest_small x = omega arith

page_rises : (x y : ℕ) → x ≤ y → x / 8192 ≤ y / 8192
page_rises x y h = omega arith

-- ---- a list that is overwritten in a part

module _ (page : List ℕ) (at : ℕ) (bytes : List ℕ) (y : ℕ) (fits : at ≤ length page) where
  parts : get_or (overwritten page at bytes) y 0 ≡ get_or (take at page ++ (bytes ++ drop (at + length bytes) page)) y 0
  parts = ap (λ l. get_or l y 0) (append_assoc (take at page) bytes (drop (at + length bytes) page))

  pub overwritten-before : y < at → get_or (overwritten page at bytes) y 0 ≡ get_or page y 0
  overwritten-before before =
      parts ∙ get_or_append_left (take at page) (bytes ++ drop (at + length bytes) page) 0 y (omega (arith, length-take-le at page fits, before)) ∙ get_or-take at page y 0 before

  pub overwritten-within : at ≤ y → y < at + length bytes → get_or (overwritten page at bytes) y 0 ≡ get_or bytes (y - at) 0
  overwritten-within from below =
      parts ∙ get_or-append_right (take at page) (bytes ++ drop (at + length bytes) page) at y 0 (length-take-le at page fits) from
      ∙ get_or_append_left bytes (drop (at + length bytes) page) 0 (y - at) (omega arith)

  overwritten-after : at + length bytes ≤ y → get_or (overwritten page at bytes) y 0 ≡ get_or page y 0
  overwritten-after after =
      parts ∙ get_or-append_right (take at page) (bytes ++ drop (at + length bytes) page) at y 0 (length-take-le at page fits) (omega arith)
      ∙ get_or-append_right bytes (drop (at + length bytes) page) (length bytes) (y - at) 0 refl (omega arith)
      ∙ get_or-drop (at + length bytes) page (y - at - length bytes) 0
      ∙ ap (λ i. get_or page i 0) (omega arith)

-- ---- a map in which pages of a range were put

abbrev put_range : (ℕ → List ℕ) → ℕ → ℕ → Pages → Pages
put_range f a n m = with_pages (map_each (λ q. (q, f q)) (range_with_len a n)) m

module _ (f : ℕ → List ℕ) where
  put-other : (n a k : ℕ) (m : Pages) → (k < a) ⊎ (a + n ≤ k) → map.get (put_range f a n m) k ≡ map.get m k
  put-other zero a k m outside = refl
  put-other (suc n) a k m outside =
      put-other n (a + 1) k (map.insert m a (f a)) (elim outside as (λ _. (k < a + 1) ⊎ (a + 1 + n ≤ k)) [ inl less ↦ inl (omega (arith, less)) | inr more ↦ inr (omega (arith, more)) ])
      ∙ get-insert_other nat_cmp_total map.nat_cmp-IsAntisymmetric m a (f a) k (λ same. elim outside as (λ _. ⊥) [ inl less ↦ absurd (omega (arith, less, same)) | inr more ↦ absurd (omega (arith, more, same)) ])

  put-in : (n a k : ℕ) (m : Pages) → a ≤ k → k < a + n → map.get (put_range f a n m) k ≡ Some (f k)
  put-in zero a k m from below = absurd (omega arith)
  put-in (suc n) a k m from below =
      elim (nat_lt a k) as (λ b. nat_lt a k ≡ b → map.get (put_range f (a + 1) n (map.insert m a (f a))) k ≡ Some (f k)) [
        | true ↦ λ less. put-in n (a + 1) k (map.insert m a (f a)) (omega (arith, ltb-true a k less)) (omega arith)
        | false ↦ λ less.
            let same : a ≡ k = omega (arith, from, ltb-false a k less) in
            put-other n (a + 1) k (map.insert m a (f a)) (inl (omega (arith, same)))
            ∙ subst (λ q. map.get (map.insert m a (f a)) q ≡ Some (f q)) same (get-insert_same nat_cmp_total map.nat_cmp-IsAntisymmetric m a (f a))
      ] refl

-- ---- a write

module _ (pages : Pages) (offset x : ℕ) (bytes : List ℕ) (whole : AreWhole pages) where
  k : ℕ
  k = x / 8192

  base : List ℕ
  base = unwrap_or (map.get pages k) (zero_bytes 8192)

  base-length : length base ≡ 8192
  unfolding base
  base-length = elim (map.get pages k) as (λ o. map.get pages k ≡ o → length (unwrap_or o (zero_bytes 8192)) ≡ 8192) [
    | None ↦ λ is. length-zero_bytes 8192
    | Some page ↦ λ is. whole k page is
  ] refl

  base-byte : get_or base (x % 8192) 0 ≡ byte_at pages x
  unfolding base k
  base-byte = elim (map.get pages (x / 8192)) as (λ o. get_or (unwrap_or o (zero_bytes 8192)) (x % 8192) 0 ≡ option_map_or (λ page. slice_index page (x % 8192)) o 0) [
    | None ↦ slice_index-zero_bytes 8192 (x % 8192) (rest_small x)
    | Some page ↦ refl
  ]

  seg : List ℕ
  seg = take (8192 - (offset - k * 8192)) (drop (k * 8192 - offset) bytes)

  seg-length : length seg ≡ min (8192 - (offset - k * 8192)) (length bytes - (k * 8192 - offset))
  unfolding seg
  seg-length = length-take (8192 - (offset - k * 8192)) (drop (k * 8192 - offset) bytes) ∙ ap (min (8192 - (offset - k * 8192))) (length-drop (k * 8192 - offset) bytes)

  -- the byte in the page after the write
  after-within : offset ≤ x → x < offset + length bytes → get_or (page_after pages offset bytes k) (x % 8192) 0 ≡ get_or bytes (x - offset) 0
  unfolding k base seg
  after-within from below =
      let fits : offset - (x / 8192) * 8192 ≤ length (unwrap_or (map.get pages (x / 8192)) (zero_bytes 8192)) = subst (λ n. offset - (x / 8192) * 8192 ≤ n) (sym base-length) (omega arith) in
      overwritten-within base (offset - (x / 8192) * 8192) seg (x % 8192) fits (omega arith) (omega (arith, seg-length))
      ∙ get_or-take (8192 - (offset - (x / 8192) * 8192)) (drop ((x / 8192) * 8192 - offset) bytes) (x % 8192 - (offset - (x / 8192) * 8192)) 0 (omega arith)
      ∙ get_or-drop ((x / 8192) * 8192 - offset) bytes (x % 8192 - (offset - (x / 8192) * 8192)) 0
      ∙ ap (λ i. get_or bytes i 0) (omega arith)

  after-outside : (x < offset) ⊎ (offset + length bytes ≤ x) → offset / 8192 ≤ k → get_or (page_after pages offset bytes k) (x % 8192) 0 ≡ byte_at pages x
  unfolding k base seg
  after-outside outside in_range =
      let fits : offset - (x / 8192) * 8192 ≤ length (unwrap_or (map.get pages (x / 8192)) (zero_bytes 8192)) = subst (λ n. offset - (x / 8192) * 8192 ≤ n) (sym base-length) (omega (arith, in_range)) in
      elim outside as (λ _. get_or (page_after pages offset bytes k) (x % 8192) 0 ≡ byte_at pages x) [
        | inl before ↦ overwritten-before base (offset - (x / 8192) * 8192) seg (x % 8192) fits (omega (arith, before)) ∙ base-byte
        | inr after ↦ overwritten-after base (offset - (x / 8192) * 8192) seg (x % 8192) fits (omega (arith, after, seg-length)) ∙ base-byte
      ]

-- the pages of a write that has a byte
abbrev first_page : ℕ → ℕ
first_page offset = offset / 8192

abbrev page_count : ℕ → ℕ → ℕ
page_count offset len = suc ((offset + len - 1) / 8192) - offset / 8192

written-some : (pages : Pages) (offset : ℕ) (bytes : List ℕ) → 0 < length bytes
    → written pages offset bytes ≡ put_range (page_after pages offset bytes) (first_page offset) (page_count offset (length bytes)) pages
written-some pages offset bytes some =
    ap (λ b. with_pages (map_each (λ q. (q, page_after pages offset bytes q)) (cond b [] (range_with_len (first_page offset) (page_count offset (length bytes))))) pages)
    (ne_eqb (length bytes) 0 (λ none. absurd (omega (arith, none, some))))

written-none : (pages : Pages) (offset : ℕ) (bytes : List ℕ) → length bytes ≡ 0 → written pages offset bytes ≡ pages
written-none pages offset bytes none =
    ap (λ b. with_pages (map_each (λ q. (q, page_after pages offset bytes q)) (cond b [] (range_with_len (first_page offset) (page_count offset (length bytes))))) pages)
    (eq-eqb (length bytes) 0 none)

pub read_within : (pages : Pages) (offset x : ℕ) (bytes : List ℕ) → AreWhole pages → offset ≤ x → x < offset + length bytes
    → byte_at (written pages offset bytes) x ≡ slice_index bytes (x - offset)
unfolding k
read_within pages offset x bytes whole from below =
    ap (λ m. byte_at m x) (written-some pages offset bytes (omega arith))
    ∙ ap (λ o. option_map_or (λ page. slice_index page (x % 8192)) o 0)
    (put-in (page_after pages offset bytes) (page_count offset (length bytes)) (first_page offset) (x / 8192) pages (page_rises offset x from) (omega arith))
    ∙ after-within pages offset x bytes whole from below

module _ (pages : Pages) (offset x : ℕ) (bytes : List ℕ) (whole : AreWhole pages) (outside : (x < offset) ⊎ (offset + length bytes ≤ x)) where
  some_outside : 0 < length bytes → byte_at (put_range (page_after pages offset bytes) (first_page offset) (page_count offset (length bytes)) pages) x ≡ byte_at pages x
  unfolding k
  some_outside some =
      elim (nat_lt (x / 8192) (first_page offset)) as (λ b. nat_lt (x / 8192) (first_page offset) ≡ b
      → byte_at (put_range (page_after pages offset bytes) (first_page offset) (page_count offset (length bytes)) pages) x ≡ byte_at pages x) [
        | true ↦ λ less. ap (λ o. option_map_or (λ page. slice_index page (x % 8192)) o 0)
            (put-other (page_after pages offset bytes) (page_count offset (length bytes)) (first_page offset) (x / 8192) pages (inl (ltb-true (x / 8192) (first_page offset) less)))
        | false ↦ λ from.
            elim (nat_lt (x / 8192) (first_page offset + page_count offset (length bytes))) as (λ b. nat_lt (x / 8192) (first_page offset + page_count offset (length bytes)) ≡ b
            → byte_at (put_range (page_after pages offset bytes) (first_page offset) (page_count offset (length bytes)) pages) x ≡ byte_at pages x) [
              | true ↦ λ less.
                  let low = ltb-false (x / 8192) (first_page offset) from in
                  ap (λ o. option_map_or (λ page. slice_index page (x % 8192)) o 0)
                  (put-in (page_after pages offset bytes) (page_count offset (length bytes)) (first_page offset) (x / 8192) pages low (ltb-true (x / 8192) (first_page offset + page_count offset (length bytes)) less))
                  ∙ after-outside pages offset x bytes whole outside low
              | false ↦ λ more. ap (λ o. option_map_or (λ page. slice_index page (x % 8192)) o 0)
                  (put-other (page_after pages offset bytes) (page_count offset (length bytes)) (first_page offset) (x / 8192) pages
                  (inr (ltb-false (x / 8192) (first_page offset + page_count offset (length bytes)) more)))
            ] refl
      ] refl

  pub read_outside : byte_at (written pages offset bytes) x ≡ byte_at pages x
  read_outside =
      elim (nat_lt 0 (length bytes)) as (λ b. nat_lt 0 (length bytes) ≡ b → byte_at (written pages offset bytes) x ≡ byte_at pages x) [
        | true ↦ λ some. ap (λ m. byte_at m x) (written-some pages offset bytes (ltb-true 0 (length bytes) some)) ∙ some_outside (ltb-true 0 (length bytes) some)
        | false ↦ λ none. ap (λ m. byte_at m x) (written-none pages offset bytes (omega (arith, ltb-false 0 (length bytes) none)))
      ] refl
