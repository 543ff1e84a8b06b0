-- What a change of one cell leaves, and what stands there.
use Rattle.std.proofs.Common.{◌≡◌, ◌∙◌, ◌⊎◌, inl, inr, ℕ, ◌+◌, ◌*◌, ◌<◌, ◌≤◌, ◌^◌, ◌&&◌, Bool, true, false, cond, nat_eq, nat_lt, Option, Some, None, IfSome, List, [], ◌++◌, length, take, drop, get_or, slice_index, refl, sym, ap, subst, arith}
use Rattle.std.proofs.lemmas.Bool.{cases_lt, and_from, and_parts, eqb-true, eq-eqb, lt-ltb, both_ways}
use Rattle.std.proofs.lemmas.List.{take_at, get_or-drop}
use Rattle.std.proofs.lemmas.List.Sums.{count_by-le-length}
use Rattle.std.specs.List.{count_by, range_with_len}
use Rattle.std.specs.Option.{option_and_then, option_map}
use Rattle.byteorder.specs.Endian.{little_bytes}
use Rattle.byteorder.specs.Numbers.{length-bytes_low_first, little_number-reads_back}
use Rattle.page_store.specs.domain_base.Page.{overwritten}
use Rattle.page_store.specs.domain_base.declared.place.CellAt.{CellAt}
use Rattle.page_store.specs.domain_base.declared.place.Home.{Home}
use Rattle.page_store.specs.Pages.{Pages, same_home}
use Rattle.cell_records.specs.Fields.{number_at}
use Rattle.cell_records.proofs.Bytes.{little_number-take}
use Rattle.metadata_cells.specs.Cell.{IsFreeOrUsed}
use Rattle.metadata_cells.specs.CellPage.{ChangesCell, IsCellPage, KeepsHeaders, KeepsWellFormed, cell_at, cell_of, free_cells, header, home_of, is_cell_page, with_cell}
use Rattle.metadata_cells.specs.Chain.{LeavesOthers, is_at}
use Rattle.metadata_cells.proofs.Places.{part_before, rest_after, part_there, long_still}

pub number-same : (w at : ℕ) (xs ys : List ℕ) → take w (drop at xs) ≡ take w (drop at ys) → number_at w at xs ≡ number_at w at ys
unfolding number_at
number-same w at xs ys same = little_number-take w (drop at xs) (drop at ys) same

number-back : (n : ℕ) (page : List ℕ) → n < 2 ^ 16 → take 2 (drop 12 page) ≡ little_bytes 2 n → number_at 2 12 page ≡ n
unfolding number_at
number-back n page small is =
    little_number-take 2 (drop 12 page) (little_bytes 2 n ++ []) (is ∙ sym (take_at (little_bytes 2 n) [] 2 (length-bytes_low_first 0 2 n))) ∙ little_number-reads_back 2 n [] small

module _ (page bytes : List ℕ) (c : ℕ) (whole : length page ≡ 8192) (len : length bytes ≡ 292) (within : c < 28) where
  one : List ℕ
  one = overwritten page (16 + 292 * c) bytes

  two : List ℕ
  two = little_bytes 2 (free_cells one)

  two-long : length two ≡ 2
  unfolding two
  two-long = length-bytes_low_first 0 2 (free_cells one)

  fits : 16 + 292 * c + length bytes ≤ length page
  fits = omega (arith, whole, len, within)

  fits_two : 12 + length two ≤ length one
  unfolding one
  fits_two = omega (arith, two-long, long_still page bytes (16 + 292 * c) fits, whole)

  abbrev end : List ℕ
  end = with_cell c bytes page

  behind : (a : ℕ) → 14 ≤ a → drop a end ≡ drop a one
  unfolding one two
  behind a after = rest_after one two 12 fits_two a (omega (arith, two-long, after))

  before : (a n : ℕ) → a + n ≤ 12 → take n (drop a end) ≡ take n (drop a page)
  unfolding one two
  before a n le = part_before one two 12 fits_two a n le ∙ part_before page bytes (16 + 292 * c) fits a n (omega (arith, le))

  pub magic_still : is_cell_page end ≡ is_cell_page page
  magic_still = ap (λ n. nat_eq n 0x50544d42) (number-same 4 0 end page (before 0 4 (omega arith)))

  pub cell_there : cell_of end c ≡ bytes
  unfolding one
  cell_there = ap (take 292) (behind (16 + 292 * c) (omega arith)) ∙ subst (λ n. take n (drop (16 + 292 * c) one) ≡ bytes) len (part_there page bytes (16 + 292 * c) fits)

  pub cell_elsewhere : (j : ℕ) → ¬ j ≡ c → cell_of end j ≡ cell_of page j
  unfolding one
  cell_elsewhere j other = ap (take 292) (behind (16 + 292 * j) (omega arith)) ∙ side (order j c other)
    where
      order : (j c : ℕ) → ¬ j ≡ c → (j < c) ⊎ (c < j)
      order j c other = elim (cases_lt j c) [ inl less ↦ inl less | inr not_less ↦ inr (omega (arith, not_less, other)) ]

      side : (j < c) ⊎ (c < j) → take 292 (drop (16 + 292 * j) one) ≡ take 292 (drop (16 + 292 * j) page)
      side (inl less) = part_before page bytes (16 + 292 * c) fits (16 + 292 * j) 292 (omega (arith, less))
      side (inr more) = ap (take 292) (rest_after page bytes (16 + 292 * c) fits (16 + 292 * j) (omega (arith, more, len)))

  same_kinds : free_cells end ≡ free_cells one
  same_kinds = ap (λ (test : ℕ → Bool). count_by test (range_with_len 0 28)) (λ i j. nat_eq (kinds j i) 0)
    where
      kinds : (j : ℕ) → slice_index end (31 + 292 * j) ≡ slice_index one (31 + 292 * j)
      kinds j =
          let e : 31 + 292 * j ≡ 14 + (17 + 292 * j) = omega arith in
          ap (slice_index end) e ∙ sym (get_or-drop 14 end (17 + 292 * j) 0) ∙ ap (λ bs. get_or bs (17 + 292 * j) 0) (behind 14 (omega arith)) ∙ get_or-drop 14 one (17 + 292 * j) 0 ∙ ap (slice_index one) (sym e)

  pub count_right : number_at 2 12 end ≡ free_cells end
  unfolding one two
  count_right =
      number-back (free_cells one) end (omega (arith, count_by-le-length (λ cell. nat_eq (slice_index one (31 + 292 * cell)) 0) (range_with_len 0 28)))
      (subst (λ n. take n (drop 12 end) ≡ two) two-long (part_there one two 12 fits_two))
      ∙ sym same_kinds

  pub zeros_still : number_at 2 14 end ≡ number_at 2 14 page
  unfolding one
  zeros_still = number-same 2 14 end page (ap (take 2) (behind 14 (omega arith)) ∙ part_before page bytes (16 + 292 * c) fits 14 2 (omega arith))

  pub header_still : header end ≡ header page
  header_still i = (number-same 4 4 end page (before 4 4 (omega arith)) i, number-same 4 8 end page (before 8 4 (omega arith)) i)

  pub good_still : IsFreeOrUsed bytes → IsCellPage page → IsCellPage end
  good_still good was = record {
    magic = magic_still ∙ was.magic;
    free = count_right;
    end = zeros_still ∙ was.end;
    cells = λ j below. by_place j below (nat_eq j c) refl;
  }
    where
      by_place : (j : ℕ) → j < 28 → (b : Bool) → nat_eq j c ≡ b → IsFreeOrUsed (cell_of end j)
      by_place j below true is = subst (λ bs. IsFreeOrUsed bs) (sym (ap (cell_of end) (eqb-true j c is) ∙ cell_there)) good
      by_place j below false is = subst (λ bs. IsFreeOrUsed bs) (sym (cell_elsewhere j (λ same. both_ways (nat_eq j c) is (eq-eqb j c same)))) (was.cells j below)

-- ---- a change in pages by their homes

same_vol_page : (a b : Home) → a.vol ≡ b.vol → a.page ≡ b.page → a ≡ b
same_vol_page a b vol page = ap (λ (n : ℕ). record a { vol = n }) vol ∙ ap (λ (n : ℕ). record b { page = n }) page

pub homes_same : (a b : Home) → same_home a b ≡ true → a ≡ b
homes_same a b same = let both = and_parts (nat_eq a.vol b.vol) (nat_eq a.page b.page) same in same_vol_page a b (eqb-true a.vol b.vol both.0) (eqb-true a.page b.page both.1)

pub same_itself : (a : Home) → same_home a a ≡ true
same_itself a = and_from (nat_eq a.vol a.vol) (nat_eq a.page a.page) (eq-eqb a.vol a.vol refl) (eq-eqb a.page a.page refl)

abbrev cell_in : ℕ → List ℕ → Option (List ℕ)
cell_in c page = cond (is_cell_page page && nat_lt c 28) (Some (cell_of page c)) None

module _ (at : CellAt) (bytes : List ℕ) (old new : Pages) (changes : ChangesCell at bytes old new) (whole : length changes.page ≡ 8192) (len : length bytes ≡ 292) (within : at.cell < 28) where
  now_there : new (home_of at) ≡ Some (with_cell at.cell bytes changes.page)
  now_there = changes.is (home_of at) ∙ ap (λ (b : Bool). cond b (Some (with_cell at.cell bytes changes.page)) (old (home_of at))) (same_itself (home_of at))

  pub stands_there : is_cell_page changes.page ≡ true → cell_at new at ≡ Some bytes
  stands_there magic =
      ap (option_and_then (cell_in at.cell)) now_there
      ∙ ap (λ (b : Bool). cond b (Some (cell_of (with_cell at.cell bytes changes.page) at.cell)) None)
      (and_from (is_cell_page (with_cell at.cell bytes changes.page)) (nat_lt at.cell 28) (magic_still changes.page bytes at.cell whole len within ∙ magic) (lt-ltb at.cell 28 within))
      ∙ ap Some (cell_there changes.page bytes at.cell whole len within)

  pub elsewhere : (home : Home) → same_home home (home_of at) ≡ false → new home ≡ old home
  elsewhere home other = changes.is home ∙ ap (λ (b : Bool). cond b (Some (with_cell at.cell bytes changes.page)) (old home)) other

  cells_same : (c : ℕ) → ¬ c ≡ at.cell → cell_in c (with_cell at.cell bytes changes.page) ≡ cell_in c changes.page
  cells_same c other = λ i. cond (magic_still changes.page bytes at.cell whole len within i && nat_lt c 28) (Some (cell_elsewhere changes.page bytes at.cell whole len within c other i)) None

  pub others_stay : LeavesOthers (is_at at) old new
  others_stay q apart = by_home (same_home (home_of q) (home_of at)) refl
    where
      by_home : (b : Bool) → same_home (home_of q) (home_of at) ≡ b → cell_at new q ≡ cell_at old q
      by_home false other = ap (option_and_then (cell_in q.cell)) (elsewhere (home_of q) other)
      by_home true same =
          let home = homes_same (home_of q) (home_of at) same in
          let vol : at.vol ≡ q.vol = sym (ap (λ (h : Home). h.vol) home) in
          let page : at.page ≡ q.page = sym (ap (λ (h : Home). h.page) home) in
          let other : ¬ q.cell ≡ at.cell = λ cell. both_ways (is_at at q) apart
          (and_from (nat_eq at.vol q.vol) (nat_eq at.page q.page && nat_eq at.cell q.cell) (eq-eqb at.vol q.vol vol)
          (and_from (nat_eq at.page q.page) (nat_eq at.cell q.cell) (eq-eqb at.page q.page page) (eq-eqb at.cell q.cell (sym cell)))) in
          ap (λ h. option_and_then (cell_in q.cell) (new h)) home ∙ ap (option_and_then (cell_in q.cell)) now_there ∙ cells_same q.cell other
          ∙ sym (ap (option_and_then (cell_in q.cell)) changes.was) ∙ sym (ap (λ h. option_and_then (cell_in q.cell) (old h)) home)

  pub headers_stay : KeepsHeaders old new
  headers_stay home = by_home (same_home home (home_of at)) refl
    where
      by_home : (b : Bool) → same_home home (home_of at) ≡ b → option_map header (new home) ≡ option_map header (old home)
      by_home false other = ap (option_map header) (elsewhere home other)
      by_home true same =
          let is = homes_same home (home_of at) same in
          ap (option_map header) (ap new is ∙ now_there) ∙ ap Some (header_still changes.page bytes at.cell whole len within) ∙ sym (ap (option_map header) (ap old is ∙ changes.was))

  pub good_pages : IsFreeOrUsed bytes → KeepsWellFormed old new
  good_pages good home was = by_home (same_home home (home_of at)) refl
    where
      by_home : (b : Bool) → same_home home (home_of at) ≡ b → IfSome (new home) IsCellPage
      by_home false other = subst (λ o. IfSome o IsCellPage) (sym (elsewhere home other)) was
      by_home true same =
          let is = homes_same home (home_of at) same in
          let page : IsCellPage changes.page = subst (λ o. IfSome o IsCellPage) (ap old is ∙ changes.was) was in
          subst (λ o. IfSome o IsCellPage) (sym (ap new is ∙ now_there)) (good_still changes.page bytes at.cell whole len within good page)
