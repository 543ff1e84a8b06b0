-- A page of cells in which one was changed.
use Rattle.std.proofs.Common.{◌≡◌, ◌∙◌, ℕ, ◌+◌, ◌-◌, ◌*◌, ◌<◌, ◌≤◌, Bool, true, false, cond, nat_eq, Option, Some, None, List, ◌++◌, length, take, drop, get_or, slice_index, refl, sym, ap, arith, append_assoc, length-append, length-drop, length-take}
use Rattle.std.proofs.lemmas.List.{take_at, drop_at, drop-drop, take-append-drop, take-append-le, drop-append-le}
use Rattle.std.proofs.lemmas.Bool.{and_from, eqb-true, eq-eqb}
use Rattle.std.proofs.lemmas.List.Sums.{count_by_more_yes, count_by_more_no}
use Rattle.std.proofs.lemmas.List.FromFn.{get_or-range_with_len}
use Rattle.std.specs.List.{count_by, range_with_len}
use Rattle.page_store.specs.domain_base.Page.{overwritten}
use Rattle.page_store.specs.domain_base.declared.place.Home.{Home}
use Rattle.std.specs.Option.{IsSomeAnd, unwrap_or}
use Rattle.page_store.specs.domain_base.declared.place.CellAt.{CellAt}
use Rattle.page_store.specs.Pages.{Pages, same_home, with_page}
use Rattle.metadata_cells.specs.CellPage.{ChangesCell, ChangesPage, home_of, recounted}

-- ---- counting

not_eq : (n : ℕ) → ¬ n ≡ 0 → nat_eq n 0 ≡ false
not_eq n other = by_test (nat_eq n 0) refl
  where
    by_test : (b : Bool) → nat_eq n 0 ≡ b → b ≡ false
    by_test true is = absurd (other (eqb-true n 0 is))
    by_test false is = refl

-- ---- bytes of a page changed, and then the count of its free cells

same_home_refl : (home : Home) → same_home home home ≡ true
same_home_refl home = and_from (nat_eq home.vol home.vol) (nat_eq home.page home.page) (eq-eqb home.vol home.vol refl) (eq-eqb home.page home.page refl)

some_is : (x y : List ℕ) → Some x ≡ Some y → x ≡ y
some_is x y e = ap (λ (o : Option (List ℕ)). unwrap_or o x) e

pub changed_twice : (old mid new : Pages) (at : CellAt) (bytes : List ℕ)
    → IsSomeAnd (old (home_of at)) (λ page. mid ≡ with_page (home_of at) (overwritten page (16 + 292 * at.cell) bytes) old)
    → ChangesPage (home_of at) recounted mid new → ChangesCell at bytes old new
changed_twice old mid new at bytes some changes = go (old (home_of at)) refl some
  where
    home : Home
    home = home_of at

    go : (o : Option (List ℕ)) → old (home_of at) ≡ o → IsSomeAnd o (λ page. mid ≡ with_page (home_of at) (overwritten page (16 + 292 * at.cell) bytes) old) → ChangesCell at bytes old new
    go None was e = absurd e
    go (Some page) was e =
        let put = overwritten page (16 + 292 * at.cell) bytes in
        let here : Some changes.page ≡ Some put = sym changes.was ∙ ap (λ (pages : Pages). pages home) e ∙ ap (λ b. cond b (Some put) (old home)) (same_home_refl home) in
        let same : changes.page ≡ put = some_is changes.page put here in
        record { page = page; was = was; is = λ h. changes.is h ∙ step page put h (same_home h home) refl e same }
      where
        step : (page put : List ℕ) (h : Home) (b : Bool) → same_home h home ≡ b → mid ≡ with_page home put old → changes.page ≡ put
            → cond (same_home h home) (Some (recounted changes.page)) (mid h) ≡ cond (same_home h home) (Some (recounted put)) (old h)
        step page put h true is e same = rw is (ap (λ p. Some (recounted p)) same)
        step page put h false is e same = rw is (ap (λ (pages : Pages). pages h) e ∙ ap (λ b. cond b (Some put) (old h)) is)

kind_at : List ℕ → ℕ → ℕ
kind_at page cell = slice_index page (31 + 292 * cell)

module _ (page : List ℕ) (count cell : ℕ) (counted : count ≡ count_by (λ cell. nat_eq (slice_index page (31 + 292 * cell)) 0) (take cell (range_with_len 0 28))) (more : cell < 28) where
  abbrev Test : ℕ → Bool
  Test cell = nat_eq (slice_index page (31 + 292 * cell)) 0

  there : get_or (range_with_len 0 28) cell 0 ≡ cell
  there = get_or-range_with_len 0 28 cell 0 more ∙ (let e : 0 + cell ≡ cell = omega arith in e)

  pub counts : slice_index page (31 + 292 * cell) ≡ 0 → count + 1 ≡ count_by Test (take (cell + 1) (range_with_len 0 28))
  counts free = ap (λ n. n + 1) counted ∙ sym (count_by_more_yes Test (range_with_len 0 28) cell 0 more (ap Test there ∙ eq-eqb (slice_index page (31 + 292 * cell)) 0 free))

  pub passes_over : ¬ slice_index page (31 + 292 * cell) ≡ 0 → count ≡ count_by Test (take (cell + 1) (range_with_len 0 28))
  passes_over used = counted ∙ sym (count_by_more_no Test (range_with_len 0 28) cell 0 more (ap Test there ∙ not_eq (slice_index page (31 + 292 * cell)) used))

-- ---- a part of a page that is overwritten in another part

module _ (page bytes : List ℕ) (b : ℕ) (fits : b + length bytes ≤ length page) where
  front : length (take b page) ≡ b
  front = omega (arith, length-take b page, fits)

  parts : overwritten page b bytes ≡ take b page ++ (bytes ++ drop (b + length bytes) page)
  parts = append_assoc (take b page) bytes (drop (b + length bytes) page)

  pub part_before : (a n : ℕ) → a + n ≤ b → take n (drop a (overwritten page b bytes)) ≡ take n (drop a page)
  part_before a n before = piece (bytes ++ drop (b + length bytes) page) (overwritten page b bytes) parts ∙ sym (piece (drop b page) page (sym (take-append-drop b page)))
    where
      piece : (rest whole : List ℕ) → whole ≡ take b page ++ rest → take n (drop a whole) ≡ take n (drop a (take b page))
      piece rest whole is =
          ap (λ bs. take n (drop a bs)) is ∙ ap (take n) (drop-append-le a (take b page) rest (omega (arith, front, before)))
          ∙ take-append-le n (drop a (take b page)) rest (omega (arith, length-drop a (take b page), front, before))

  pub rest_after : (a : ℕ) → b + length bytes ≤ a → drop a (overwritten page b bytes) ≡ drop a page
  rest_after a after =
      let k = b + length bytes in
      let e : k + (a - k) ≡ a = omega (arith, after) in
      let e' : a - k + k ≡ a = omega (arith, after) in
      let long : length (take b page ++ bytes) ≡ k = omega (arith, length-append (take b page) bytes, front) in
      ap (λ n. drop n (overwritten page b bytes)) (sym e) ∙ sym (drop-drop (a - k) k (overwritten page b bytes))
      ∙ ap (drop (a - k)) (drop_at (take b page ++ bytes) (drop k page) k long) ∙ drop-drop (a - k) k page ∙ ap (λ n. drop n page) e

  pub part_there : take (length bytes) (drop b (overwritten page b bytes)) ≡ bytes
  part_there = ap (λ bs. take (length bytes) (drop b bs)) parts ∙ ap (take (length bytes)) (drop_at (take b page) (bytes ++ drop (b + length bytes) page) b front)
      ∙ take_at bytes (drop (b + length bytes) page) (length bytes) refl

  pub long_still : length (overwritten page b bytes) ≡ length page
  long_still = omega (arith, ap length parts, length-append (take b page) (bytes ++ drop (b + length bytes) page), length-append bytes (drop (b + length bytes) page), length-drop (b + length bytes) page, front, fits)
