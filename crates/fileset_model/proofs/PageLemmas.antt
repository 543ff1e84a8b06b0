-- The pages of a file as a sorted list.
use Rattle.std.proofs.Common.{◌≡◌, ℕ, zero, suc, ◌+◌, ◌/◌, ◌%◌, ◌<◌, ◌≤◌, Bool, cond, List, [], ◌∷◌, ◌++◌, length, get_or, slice_index, map, take, drop, Option, Some, None, unwrap_or, IsTrue, count_by, refl, sym, ap, ◌∙◌, arith}
use Rattle.std.specs.Option.{option_map_or}
use Rattle.std.specs.FinMap as map_of
use Rattle.std.proofs.lemmas.List.{drop_more}
use Rattle.fileset_values.specs.domain_base.Page.{zero_bytes, slice_index-zero_bytes}
use Rattle.std.specs.List.{range_with_len}
use Rattle.std.proofs.lemmas.List.{map-id}
use Rattle.std.proofs.lemmas.List.FromFn.{sum_by-map-range_with_len_more}
use Rattle.std.specs.Ordering.{nat_cmp}
use Rattle.std.specs.Cmp.{nat_cmp_total}
use Rattle.std.specs.FinMap.{from_sorted}
use Rattle.std.specs.FinMap.Entries.{is_sorted, put}
use Rattle.sorted_sets.specs.Entries.{put_each}
use Rattle.fileset_model.specs.Pages.{Pages, byte_at, with_pages}
use Rattle.sorted_sets.proofs.EntryLemmas.{insert-from_sorted, is_sorted_put}

pub put_each-with_pages : (changed es : List (ℕ × List ℕ)) → IsTrue (is_sorted nat_cmp es) → from_sorted {R = nat_cmp} (put_each nat_cmp changed es) ≡ with_pages changed (from_sorted es)
put_each-with_pages [] es h = refl
put_each-with_pages (e ∷ changed) es h =
    put_each-with_pages changed (put nat_cmp e.0 e.1 es) (is_sorted_put nat_cmp_total es e.0 e.1 h)
    ∙ ap (with_pages changed) (insert-from_sorted nat_cmp_total es e.0 e.1 h)

-- a count over numbers in a row, with one number more
pub count_by-range_with_len_more : (p : ℕ → Bool) (first n next : ℕ) → first + n ≡ next → count_by p (range_with_len first (n + 1)) ≡ count_by p (range_with_len first n) + cond (p next) 1 0
count_by-range_with_len_more p first n next e =
    ap (count_by p) (sym (map-id (range_with_len first (n + 1))))
    ∙ sum_by-map-range_with_len_more (λ x. cond (p x) 1 0) (λ x. x) first n next e
    ∙ ap (λ xs. count_by p xs + cond (p next) 1 0) (map-id (range_with_len first n))

-- values at numbers in a row, and at those after them
pub map-range_with_len-append : {X : Type 0} (f : ℕ → X) (first n m next all : ℕ) → first + n ≡ next → n + m ≡ all → map f (range_with_len first n) ++ map f (range_with_len next m) ≡ map f (range_with_len first all)
map-range_with_len-append f first zero m next all e total =
    let begins : next ≡ first = omega (arith, e) in
    let rest : m ≡ all = omega (arith, total) in
    ap (λ a. map f (range_with_len a m)) begins ∙ ap (λ k. map f (range_with_len first k)) rest
map-range_with_len-append f first (suc n) m next all e total =
    let one_more : suc (n + m) ≡ all = omega (arith, total) in
    ap (λ l. f first ∷ l) (map-range_with_len-append f (first + 1) n m next (n + m) (omega (arith, e)) refl)
    ∙ ap (λ k. map f (range_with_len first k)) one_more

-- a byte of the page of x, of zeros where it is absent, is one of the file
pub byte_at-page : (pages : Pages) (x i y : ℕ) → x % 8192 ≤ i → i < 8192 → i + x ≡ y + x % 8192 → get_or (unwrap_or (map_of.get pages (x / 8192)) (zero_bytes 8192)) i 0 ≡ byte_at pages y
byte_at-page pages x i y low high same =
    let page : x / 8192 ≡ y / 8192 = omega (arith, low, high, same) in
    let place : i ≡ y % 8192 = omega (arith, low, high, same) in
    in_page (map_of.get pages (x / 8192)) i high
    ∙ ap (λ k. option_map_or (λ page. slice_index page k) (map_of.get pages (x / 8192)) 0) place
    ∙ ap (λ q. option_map_or (λ page. slice_index page (y % 8192)) (map_of.get pages q) 0) page
  where
    in_page : (found : Option (List ℕ)) (i : ℕ) → i < 8192 → get_or (unwrap_or found (zero_bytes 8192)) i 0 ≡ option_map_or (λ page. slice_index page i) found 0
    in_page None i h = slice_index-zero_bytes 8192 i h
    in_page (Some page) i h = refl

-- a run of places of a list, as values at numbers in a row
pub run-range_with_len : (f : ℕ → ℕ) (page : List ℕ) (x at len : ℕ) → at + len ≤ length page → ((i y : ℕ) → at ≤ i → i < at + len → i + x ≡ y + at → get_or page i 0 ≡ f y) → take len (drop at page) ≡ map f (range_with_len x len)
run-range_with_len f page x at zero h e = refl
run-range_with_len f page x at (suc n) h e =
    ap (take (suc n)) (drop_more page at 0 (omega (arith, h)))
    ∙ ap (λ b. b ∷ take n (drop (at + 1) page)) (e at x (omega arith) (omega arith) (omega arith))
    ∙ ap (λ l. f x ∷ l) (run-range_with_len f page (x + 1) (at + 1) n (omega (arith, h)) (λ i y low high same. e i y (omega (arith, low)) (omega (arith, high)) (omega (arith, same))))
