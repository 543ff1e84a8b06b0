-- What a page begins with: a page of free cells, and a page with another next page.
use Rattle.std.proofs.Common.{◌≡◌, ◌∙◌, ℕ, zero, suc, ◌+◌, ◌-◌, ◌*◌, ◌<◌, ◌≤◌, ◌^◌, ◌&&◌, Bool, true, false, cond, nat_eq, nat_lt, Option, Some, None, IfSome, IsSomeAnd, List, [], ◌∷◌, ◌++◌, length, take, drop, get_or, slice_index, refl, sym, ap, subst, arith, append_assoc, inl}
use Rattle.std.proofs.lemmas.Bool.{eq-eqb}
use Rattle.std.proofs.lemmas.List.{take_at, get_or-drop, drop-replicate, take-replicate}
use Rattle.std.proofs.lemmas.List.Sums.{count_by_more_yes}
use Rattle.std.proofs.lemmas.List.FromFn.{get_or-range_with_len}
use Rattle.std.specs.List.{count_by, range_with_len}
use Rattle.std.specs.Option.{option_and_then, option_map}
use Rattle.byteorder.specs.Endian.{little_bytes}
use Rattle.byteorder.specs.Numbers.{length-bytes_low_first, little_number-reads_back}
use Rattle.page_store.specs.domain_base.Page.{overwritten, zero_bytes, length-zero_bytes, slice_index-zero_bytes}
use Rattle.page_store.specs.domain_base.declared.place.CellAt.{CellAt}
use Rattle.page_store.specs.domain_base.declared.place.Home.{Home}
use Rattle.page_store.specs.Pages.{Pages, same_home}
use Rattle.cell_records.specs.Fields.{Fit, number_at}
use Rattle.cell_records.specs.Records.{spelled}
use Rattle.cell_records.specs.Rules.{nothing_seen}
use Rattle.cell_records.proofs.Bytes.{little_number-take}
use Rattle.cell_records.proofs.Scan.{decoded, decoded_again}
use Rattle.metadata_cells.specs.Cell.{IsFreeCell, IsFreeOrUsed}
use Rattle.metadata_cells.specs.CellPage.{ChangesPage, IsCellPage, IsEmptyPage, KeepsWellFormed, cell_at, cell_of, free_cells, home_of, index_of, is_cell_page, is_free_in, next_of, with_next}
use Rattle.metadata_cells.proofs.Changed.{homes_same, same_itself, number-same}
use Rattle.metadata_cells.proofs.Places.{part_before, rest_after, part_there}
use Rattle.metadata_cells.proofs.Written.{any_of, pass_any}

-- ---- an empty page

abbrev pub header_widths : List ℕ
header_widths = 4 ∷ 4 ∷ 4 ∷ 2 ∷ 2 ∷ []

abbrev pub header_numbers : ℕ → List ℕ
header_numbers index = 0x50544d42 ∷ index ∷ 0 ∷ 28 ∷ 0 ∷ []

part_of_zeros : (a n m : ℕ) → a + n ≤ m → take n (drop a (zero_bytes m)) ≡ zero_bytes n
unfolding zero_bytes
part_of_zeros a n m within = ap (take n) (drop-replicate a m 0) ∙ take-replicate n (m - a) 0 (omega (arith, within))

count_all : (p : ℕ → Bool) (n k : ℕ) → ((c : ℕ) → c < n → p c ≡ true) → length (range_with_len 0 n) ≡ n → k ≤ n → count_by p (take k (range_with_len 0 n)) ≡ k
count_all p n zero all long le = refl
count_all p n (suc k) all long le =
    let e : suc k ≡ k + 1 = omega arith in
    let at : get_or (range_with_len 0 n) k 0 ≡ k = get_or-range_with_len 0 n k 0 (omega (arith, le)) ∙ (let e : 0 + k ≡ k = omega arith in e) in
    ap (λ j. count_by p (take j (range_with_len 0 n))) e
    ∙ count_by_more_yes p (range_with_len 0 n) k 0 (omega (arith, le, long)) (ap p at ∙ all k (omega (arith, le)))
    ∙ ap (λ j. j + 1) (count_all p n k all long (omega (arith, le))) ∙ sym e

module _ (index : ℕ) (zeros bytes rest : List ℕ) (are_zeros : zeros ≡ zero_bytes 8192) (written : bytes ≡ spelled header_widths (header_numbers index) ++ rest) (len : length bytes ≡ 16)
    (fit : Fit header_widths (header_numbers index)) where
  abbrev out : List ℕ
  out = overwritten zeros 0 bytes

  whole : length zeros ≡ 8192
  whole = ap length are_zeros ∙ length-zero_bytes 8192

  fits : 0 + length bytes ≤ length zeros
  fits = omega (arith, whole, len)

  back : decoded header_widths 0 out ≡ header_numbers index
  back =
      let behind = drop (0 + length bytes) zeros in
      let e : out ≡ spelled header_widths (header_numbers index) ++ (rest ++ behind) = ap (λ (bs : List ℕ). bs ++ behind) written ∙ append_assoc (spelled header_widths (header_numbers index)) rest behind in
      ap (decoded header_widths 0) e
      ∙ decoded_again header_widths (any_of header_widths) nothing_seen (header_numbers index) [] (rest ++ behind) 0 (pass_any header_widths (header_numbers index) fit) refl

  at : (k : ℕ) → get_or (decoded header_widths 0 out) k 0 ≡ get_or (header_numbers index) k 0
  at k = ap (λ ns. get_or ns k 0) back

  cell_is_free : (c : ℕ) → c < 28 → IsFreeCell (cell_of out c)
  cell_is_free c below =
      ap (take 292) (rest_after zeros bytes 0 fits (16 + 292 * c) (omega (arith, len))) ∙ ap (λ zs. take 292 (drop (16 + 292 * c) zs)) are_zeros
      ∙ part_of_zeros (16 + 292 * c) 292 8192 (omega (arith, below))

  kind_is_zero : (c : ℕ) → c < 28 → is_free_in out c ≡ true
  kind_is_zero c below = eq-eqb (slice_index out (31 + 292 * c)) 0
      (let e : 31 + 292 * c ≡ 16 + (15 + 292 * c) = omega arith in
      ap (slice_index out) e ∙ sym (get_or-drop 16 out (15 + 292 * c) 0) ∙ ap (λ bs. get_or bs (15 + 292 * c) 0) (rest_after zeros bytes 0 fits 16 (omega (arith, len)))
      ∙ get_or-drop 16 zeros (15 + 292 * c) 0 ∙ ap (slice_index zeros) (sym e) ∙ ap (λ zs. slice_index zs (31 + 292 * c)) are_zeros
      ∙ slice_index-zero_bytes 8192 (31 + 292 * c) (omega (arith, below)))

  all_free : free_cells out ≡ 28
  all_free = count_all (is_free_in out) 28 28 kind_is_zero refl (omega arith)

  pub is_empty : IsEmptyPage index out
  is_empty = record {
    good = record {
      magic = ap (λ n. nat_eq n 0x50544d42) (at 0);
      free = at 3 ∙ sym all_free;
      end = at 4;
      cells = λ c below. inl (cell_is_free c below);
    };
    indexed = at 1;
    last = at 2;
    free = cell_is_free;
  }

-- ---- another next page

module _ (page : List ℕ) (next : ℕ) (whole : length page ≡ 8192) (small : next < 2 ^ 32) where
  abbrev end : List ℕ
  end = with_next next page

  bytes : List ℕ
  bytes = little_bytes 4 next

  long : length bytes ≡ 4
  unfolding bytes
  long = length-bytes_low_first 0 4 next

  room : 8 + length bytes ≤ length page
  room = omega (arith, whole, long)

  behind : (a : ℕ) → 12 ≤ a → drop a end ≡ drop a page
  unfolding bytes
  behind a after = rest_after page bytes 8 room a (omega (arith, long, after))

  before : (a n : ℕ) → a + n ≤ 8 → take n (drop a end) ≡ take n (drop a page)
  unfolding bytes
  before a n le = part_before page bytes 8 room a n le

  pub magic_same : is_cell_page end ≡ is_cell_page page
  magic_same = ap (λ n. nat_eq n 0x50544d42) (number-same 4 0 end page (before 0 4 (omega arith)))

  pub index_same : index_of end ≡ index_of page
  index_same = number-same 4 4 end page (before 4 4 (omega arith))

  pub next_is : next_of end ≡ next
  unfolding number_at bytes
  next_is =
      little_number-take 4 (drop 8 end) (bytes ++ []) (subst (λ n. take n (drop 8 end) ≡ bytes) long (part_there page bytes 8 room) ∙ sym (take_at bytes [] 4 long))
      ∙ little_number-reads_back 4 next [] small

  pub cell_same : (c : ℕ) → cell_of end c ≡ cell_of page c
  cell_same c = ap (take 292) (behind (16 + 292 * c) (omega arith))

  kind_same : (c : ℕ) → is_free_in end c ≡ is_free_in page c
  kind_same c =
      let e : 31 + 292 * c ≡ 12 + (19 + 292 * c) = omega arith in
      ap (λ n. nat_eq n 0)
      (ap (slice_index end) e ∙ sym (get_or-drop 12 end (19 + 292 * c) 0) ∙ ap (λ bs. get_or bs (19 + 292 * c) 0) (behind 12 (omega arith)) ∙ get_or-drop 12 page (19 + 292 * c) 0 ∙ ap (slice_index page) (sym e))

  pub good_still : IsCellPage page → IsCellPage end
  good_still was = record {
    magic = magic_same ∙ was.magic;
    free = number-same 2 12 end page (ap (take 2) (behind 12 (omega arith))) ∙ was.free ∙ sym (ap (λ (test : ℕ → Bool). count_by test (range_with_len 0 28)) (λ i c. kind_same c i));
    end = number-same 2 14 end page (ap (take 2) (behind 14 (omega arith))) ∙ was.end;
    cells = λ c below. subst IsFreeOrUsed (sym (cell_same c)) (was.cells c below);
  }

-- ---- the same in pages by their homes

module _ (home : Home) (next : ℕ) (old new : Pages) (changes : ChangesPage home (with_next next) old new) (whole : length changes.page ≡ 8192) (small : next < 2 ^ 32) where
  pub now_there : new home ≡ Some (with_next next changes.page)
  now_there = changes.is home ∙ ap (λ (b : Bool). cond b (Some (with_next next changes.page)) (old home)) (same_itself home)

  pub elsewhere : (h : Home) → same_home h home ≡ false → new h ≡ old h
  elsewhere h other = changes.is h ∙ ap (λ (b : Bool). cond b (Some (with_next next changes.page)) (old h)) other

  pub next_there : IsSomeAnd (new home) (λ page. next_of page ≡ next)
  next_there = subst (λ o. IsSomeAnd o (λ page. next_of page ≡ next)) (sym now_there) (next_is changes.page next whole small)

  pub index_there : option_map index_of (new home) ≡ option_map index_of (old home)
  index_there = ap (option_map index_of) now_there ∙ ap Some (index_same changes.page next whole small) ∙ sym (ap (option_map index_of) changes.was)

  abbrev cell_in : ℕ → List ℕ → Option (List ℕ)
  cell_in c page = cond (is_cell_page page && nat_lt c 28) (Some (cell_of page c)) None

  pub cells_there : (at : CellAt) → cell_at new at ≡ cell_at old at
  cells_there at = by_home (same_home (home_of at) home) refl
    where
      by_home : (b : Bool) → same_home (home_of at) home ≡ b → cell_at new at ≡ cell_at old at
      by_home false other = ap (option_and_then (cell_in at.cell)) (elsewhere (home_of at) other)
      by_home true same =
          let is = homes_same (home_of at) home same in
          ap (option_and_then (cell_in at.cell)) (ap new is ∙ now_there)
          ∙ (λ i. cond (magic_same changes.page next whole small i && nat_lt at.cell 28) (Some (cell_same changes.page next whole small at.cell i)) None)
          ∙ sym (ap (option_and_then (cell_in at.cell)) (ap old is ∙ changes.was))

  pub good_there : KeepsWellFormed old new
  good_there h was = by_home (same_home h home) refl
    where
      by_home : (b : Bool) → same_home h home ≡ b → IfSome (new h) IsCellPage
      by_home false other = subst (λ o. IfSome o IsCellPage) (sym (elsewhere h other)) was
      by_home true same =
          let is = homes_same h home same in
          let page : IsCellPage changes.page = subst (λ o. IfSome o IsCellPage) (ap old is ∙ changes.was) was in
          subst (λ o. IfSome o IsCellPage) (sym (ap new is ∙ now_there)) (good_still changes.page next whole small page)
