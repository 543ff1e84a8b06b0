-- Pages of a file, put one after the other.
use Rattle.std.proofs.Common.{◌≡◌, ◌∙◌, ℕ, zero, suc, ◌+◌, ◌-◌, ◌*◌, ◌/◌, ◌<◌, ◌≤◌, true, false, cond, List, [], ◌∷◌, ◌++◌, length, Option, Some, None, drop, map, nat_eq, nat_lt, slice_get, take, unwrap_or, refl, sym, ap, arith, ⊎_elim}
use Rattle.std.proofs.lemmas.Bool.{cases_lt}
use Rattle.std.proofs.lemmas.Bool.Decides.{nat_tests}
use Rattle.std.proofs.lemmas.Option.{slice_get_past}
use Rattle.std.proofs.lemmas.List.{append-nil}
use Rattle.std.specs.List.{range_with_len}
use Rattle.std.specs.Option.{option_and_then, option_map}
use Rattle.std.specs.Ordering.{eq_by_cmp, is_eq, nat_cmp}
use Rattle.std.specs.declared.cmp.Ordering.TheVariants.{Equal, Greater, Less}
use Rattle.std.specs.Cmp.{nat_cmp_total}
use Rattle.std.specs.FinMap as map_of
use Rattle.filesets_reading.specs.domain_base.Page.{length-zero_bytes, overwritten, zero_bytes}
use Rattle.filesets_reading.specs.domain_base.declared.place.Home.{Home}
use Rattle.filesets_reading.specs.page_store.Pages.{Pages as Stored}
use Rattle.filesets_reading.specs.fileset_model.Pages.{Pages, page_after, pages_of, with_pages, written}
use Rattle.fileset_shapes.specs.Stored.{bytes_at, stored_at}

-- ---- a whole page that is written where none was

all_taken : (n : ℕ) (xs : List ℕ) → length xs ≡ n → take n xs ≡ xs
all_taken zero [] is = refl
all_taken (suc n) [] is = refl
all_taken zero (x ∷ xs) is = absurd (omega (arith, is))
all_taken (suc n) (x ∷ xs) is = ap (λ ys. x ∷ ys) (all_taken n xs (omega (arith, is)))

all_dropped : (n : ℕ) (xs : List ℕ) → length xs ≡ n → drop n xs ≡ []
all_dropped zero [] is = refl
all_dropped (suc n) [] is = refl
all_dropped zero (x ∷ xs) is = absurd (omega (arith, is))
all_dropped (suc n) (x ∷ xs) is = all_dropped n xs (omega (arith, is))

whole_page : (pages : Pages) (n : ℕ) (bytes : List ℕ) → length bytes ≡ 8192 → map_of.get pages n ≡ None → page_after pages (n * 8192) bytes n ≡ bytes
whole_page pages n bytes len absent =
    ap (λ o. overwritten (unwrap_or o (zero_bytes 8192)) (n * 8192 - n * 8192) (take (8192 - (n * 8192 - n * 8192)) (drop (n * 8192 - n * 8192) bytes))) absent
    ∙ ap (λ k. overwritten (zero_bytes 8192) k (take (8192 - k) (drop k bytes))) no_offset
    ∙ ap (λ bs. overwritten (zero_bytes 8192) 0 bs) (all_taken 8192 bytes len)
    ∙ ap (λ k. take 0 (zero_bytes 8192) ++ bytes ++ drop k (zero_bytes 8192)) whole
    ∙ ap (λ rest. bytes ++ rest) (all_dropped 8192 (zero_bytes 8192) (length-zero_bytes 8192))
    ∙ append-nil bytes
  where
    no_offset : n * 8192 - n * 8192 ≡ 0
    no_offset = omega arith

    whole : 0 + length bytes ≡ 8192
    whole = omega (arith, len)

pub written_whole : (pages : Pages) (n : ℕ) (bytes : List ℕ) → length bytes ≡ 8192 → map_of.get pages n ≡ None → written pages (n * 8192) bytes ≡ map_of.insert pages n bytes
written_whole pages n bytes len absent =
    ap (λ qs. with_pages (map (λ q. (q, page_after pages (n * 8192) bytes q)) qs) pages) one_page
    ∙ ap (λ bs. map_of.insert pages n bs) (whole_page pages n bytes len absent)
  where
    first : (n * 8192) / 8192 ≡ n
    first = omega arith

    last : (n * 8192 + 8192 - 1) / 8192 ≡ n
    last = omega arith

    one_page : pages_of (n * 8192) (length bytes) ≡ n ∷ []
    one_page =
        ap (pages_of (n * 8192)) len
        ∙ ap (λ k. range_with_len ((n * 8192) / 8192) (suc k - (n * 8192) / 8192)) last
        ∙ ap (λ k. range_with_len k (suc n - k)) first
        ∙ ap (range_with_len n) one
      where
        one : suc n - n ≡ 1
        one = omega arith

-- ---- one page after the other

tied : (n : ℕ) → eq_by_cmp nat_cmp n n ≡ true
tied n =
    let not_less : nat_lt n n ≡ false = grind (arith, nat_tests) in
    let same : nat_eq n n ≡ true = grind (arith, nat_tests) in
    rw (not_less, same)

apart : (m n : ℕ) → ¬ m ≡ n → eq_by_cmp nat_cmp m n ≡ false
apart m n h =
    let not_same : nat_eq m n ≡ false = grind (arith, nat_tests) in
    elim (nat_lt m n) as (λ b. is_eq (cond b Less (cond (nat_eq m n) Equal Greater)) ≡ false) [
      | true ↦ refl
      | false ↦ rw not_same
    ]

-- the pages before a number are what stands at their homes, and the file has no other
pub record AreFilledTo (pages : Stored) (homes : List (Option Home)) (number : ℕ) (map : Pages) : Type 0 where
  pub front : (page : ℕ) → page < number → map_of.get map page ≡ stored_at pages homes page
  pub none : (page : ℕ) → number ≤ page → map_of.get map page ≡ None

pub filled_none : (pages : Stored) (homes : List (Option Home)) (map : Pages) → map ≡ map_of.empty → AreFilledTo pages homes 0 map
filled_none pages homes map is = record {
  front = λ page low. absurd (omega (arith, low));
  none = λ page from. ap (λ (m : Pages). map_of.get m page) is ∙ map_of.get-empty nat_cmp page;
}

-- a page without a home
pub filled_past : (pages : Stored) (homes : List (Option Home)) (number : ℕ) (map : Pages) → AreFilledTo pages homes number map → slice_get homes number ≡ Some None → AreFilledTo pages homes (number + 1) map
filled_past pages homes number map is at = record {
  front = λ page low.
      ⊎_elim (λ less. is.front page less)
      (λ high.
      let last : number ≡ page = omega (arith, low, high) in
      is.none page high ∙ sym (ap (λ o. option_map (bytes_at pages) (option_and_then (λ home. home) o)) (ap (slice_get homes) (sym last) ∙ at))) (cases_lt page number);
  none = λ page from. is.none page (omega (arith, from));
}

-- a page that was put
pub filled_on : (pages : Stored) (homes : List (Option Home)) (number : ℕ) (home : Home) (old new : Pages) → AreFilledTo pages homes number old → slice_get homes number ≡ Some (Some home)
    → new ≡ map_of.insert old number (bytes_at pages home) → AreFilledTo pages homes (number + 1) new
filled_on pages homes number home old new is at put = record {
  front = λ page low.
      ⊎_elim (λ less. got page ∙ ap (λ b. cond b (Some (bytes_at pages home)) (map_of.get old page)) (apart page number (λ same. omega (arith, less, same))) ∙ is.front page less)
      (λ high.
      let last : number ≡ page = omega (arith, low, high) in
      got page ∙ ap (λ b. cond b (Some (bytes_at pages home)) (map_of.get old page)) (ap (eq_by_cmp nat_cmp page) last ∙ tied page)
      ∙ sym (ap (λ o. option_map (bytes_at pages) (option_and_then (λ home. home) o)) (ap (slice_get homes) (sym last) ∙ at))) (cases_lt page number);
  none = λ page from. got page ∙ ap (λ b. cond b (Some (bytes_at pages home)) (map_of.get old page)) (apart page number (λ same. omega (arith, from, same))) ∙ is.none page (omega (arith, from));
}
  where
    got : (page : ℕ) → map_of.get new page ≡ cond (eq_by_cmp nat_cmp page number) (Some (bytes_at pages home)) (map_of.get old page)
    got page = ap (λ (m : Pages). map_of.get m page) put ∙ map_of.get-insert nat_cmp_total old number (bytes_at pages home) page

-- all of them
pub filled_all : (pages : Stored) (homes : List (Option Home)) (number : ℕ) (map : Pages) → AreFilledTo pages homes number map → number ≡ length homes → (page : ℕ) → map_of.get map page ≡ stored_at pages homes page
filled_all pages homes number map is all page =
    ⊎_elim (λ less. is.front page less)
    (λ high. is.none page high ∙ sym (ap (λ o. option_map (bytes_at pages) (option_and_then (λ home. home) o)) (slice_get_past homes page (omega (arith, all, high))))) (cases_lt page number)
