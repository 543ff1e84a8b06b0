-- Index pages and what a set shows of them, which is all but the home of the next page.
use Rattle.std.proofs.Common.{◌≡◌, ◌∙◌, ℕ, zero, suc, ◌+◌, ◌-◌, ◌*◌, ◌≤◌, Option, Some, None, List, [], ◌∷◌, ◌++◌, length, take, drop, slice_get, refl, sym, ap, subst, arith, append_assoc, length-append, length-drop, length-take}
use Rattle.std.proofs.lemmas.List.{drop-append-le, drop-drop, drop_at, take-append-drop, take-append-le}
use Rattle.std.specs.List.{AllByRecursion}
use Rattle.std.specs.Option.{option_map}
use Rattle.byteorder.specs.Endian.{little_bytes, little_number}
use Rattle.byteorder.specs.Numbers.{length-bytes_low_first}
use Rattle.cell_records.specs.domain_base.Page.{zero_bytes, length-zero_bytes}
use Rattle.cell_records.specs.domain_base.declared.place.Tag.{Tag}
use Rattle.page_store.specs.Bitfiles.{Bitfiles, index_at, shown_index}
use Rattle.cell_records.specs.Fields.{number_at}
use Rattle.cell_records.specs.Records.{spelled}
use Rattle.cell_records.proofs.Bytes.{little_number-take}
use Rattle.directory_pages.specs.declared.entry.IndexEntry.{IndexEntry}
use Rattle.directory_pages.specs.Index.{IsIndexPage, IsPageOf, IsPart, entries_from, entries_of, entry_at, header, index_page_of, index_pages, spelling}
use Rattle.directory_pages.proofs.IndexParts.{index_is, page_good}
use Rattle.directory_pages.proofs.Pages.{over}

-- a number is the same where its bytes are
number_same : (w at : ℕ) (xs ys : List ℕ) → take w (drop at xs) ≡ take w (drop at ys) → number_at w at xs ≡ number_at w at ys
unfolding number_at
number_same w at xs ys same = little_number-take w (drop at xs) (drop at ys) same

number_behind : (w at : ℕ) (xs ys : List ℕ) → drop at xs ≡ drop at ys → number_at w at xs ≡ number_at w at ys
unfolding number_at
number_behind w at xs ys same = ap (little_number w) same

in_front : (front rest : List ℕ) (w at : ℕ) → at + w ≤ length front → number_at w at (front ++ rest) ≡ number_at w at front
in_front front rest w at within =
    number_same w at (front ++ rest) front
    (ap (take w) (drop-append-le at front rest (omega (arith, within))) ∙ take-append-le w (drop at front) rest (omega (arith, length-drop at front, within)))

module _ (page : List ℕ) (whole : length page ≡ 8192) where
  parts : shown_index page ≡ take 8 page ++ (zero_bytes 8 ++ drop (8 + length (zero_bytes 8)) page)
  parts = append_assoc (take 8 page) (zero_bytes 8) (drop (8 + length (zero_bytes 8)) page)

  before : (w at : ℕ) → at + w ≤ 8 → number_at w at (shown_index page) ≡ number_at w at page
  before w at within =
      let long : at + w ≤ length (take 8 page) = omega (arith, length-take 8 page, whole, within) in
      ap (number_at w at) parts ∙ in_front (take 8 page) (zero_bytes 8 ++ drop (8 + length (zero_bytes 8)) page) w at long
      ∙ sym (in_front (take 8 page) (drop 8 page) w at long) ∙ ap (number_at w at) (take-append-drop 8 page)

  tail_same : drop 16 (shown_index page) ≡ drop 16 page
  tail_same =
      let end : 8 + length (zero_bytes 8) ≡ 16 = omega (arith, length-zero_bytes 8) in
      let long : length (take 8 page ++ zero_bytes 8) ≡ 16 = omega (arith, length-append (take 8 page) (zero_bytes 8), length-take 8 page, whole, length-zero_bytes 8) in
      drop_at (take 8 page ++ zero_bytes 8) (drop (8 + length (zero_bytes 8)) page) 16 long ∙ ap (λ k. drop k page) end

  behind : (w at : ℕ) → number_at w (16 + at) (shown_index page) ≡ number_at w (16 + at) page
  behind w at = number_behind w (16 + at) (shown_index page) page (sym (drop-drop at 16 (shown_index page)) ∙ ap (drop at) tail_same ∙ drop-drop at 16 page)

  entry_same : (k : ℕ) → entry_at (shown_index page) k ≡ entry_at page k
  entry_same k =
      let e : 16 + (4 + 8 * k) ≡ 20 + 8 * k = omega arith in
      λ i. record { hash = behind 4 (8 * k) i; page = (ap (λ at. number_at 4 at (shown_index page)) (sym e) ∙ behind 4 (4 + 8 * k) ∙ ap (λ at. number_at 4 at page) e) i }

  from_same : (k n : ℕ) → entries_from (shown_index page) k n ≡ entries_from page k n
  from_same k zero = refl
  from_same k (suc n) = λ i. entry_same k i ∷ from_same (k + 1) n i

  pub entries_same : entries_of (shown_index page) ≡ entries_of page
  entries_same = ap (entries_from (shown_index page) 0) (before 4 4 (omega arith)) ∙ from_same 0 (number_at 4 4 page)

  good_same : IsIndexPage (shown_index page) → IsIndexPage page
  good_same good = record {
    whole = whole;
    magic = sym (before 4 0 (omega arith)) ∙ good.magic;
    count = subst (λ n. n ≤ 1022) (before 4 4 (omega arith)) good.count;
  }

  same_good : IsIndexPage page → IsIndexPage (shown_index page)
  same_good good = record {
    whole = omega (arith, length-append (take 8 page ++ zero_bytes 8) (drop (8 + length (zero_bytes 8)) page), length-append (take 8 page) (zero_bytes 8), length-take 8 page, length-drop (8 + length (zero_bytes 8)) page, whole, length-zero_bytes 8);
    magic = before 4 0 (omega arith) ∙ good.magic;
    count = subst (λ n. n ≤ 1022) (sym (before 4 4 (omega arith))) good.count;
  }

long_of : (page : List ℕ) → length (shown_index page) ≡ 8192 → length page ≡ 8192
long_of page long =
    omega (arith, long, length-append (take 8 page ++ zero_bytes 8) (drop (8 + length (zero_bytes 8)) page), length-append (take 8 page) (zero_bytes 8), length-take 8 page, length-drop (8 + length (zero_bytes 8)) page, length-zero_bytes 8)

-- a page that shows a good one is one, with its entries
alike : (page part : List ℕ) → shown_index page ≡ shown_index part → IsIndexPage part → IsIndexPage page × (entries_of page ≡ entries_of part)
alike page part same good =
    let whole = long_of page (ap length same ∙ (same_good part good.whole good).whole) in (
      good_same page whole (subst IsIndexPage (sym same) (same_good part good.whole good)),
      sym (entries_same page whole) ∙ ap entries_of same ∙ entries_same part good.whole,
    )

pub part_is : (files : Bitfiles) (dir : Tag) (k : ℕ) → AllByRecursion IsIndexPage (index_pages files dir) → (o : Option (List ℕ)) → option_map shown_index o ≡ option_map shown_index (index_at files dir k)
    → IsPart (index_pages files dir) k o
part_is files dir k good o shown = by_part o (slice_get (index_pages files dir) k) refl (shown ∙ ap (option_map shown_index) (index_is files dir k))
  where
    by_part : (o p : Option (List ℕ)) → slice_get (index_pages files dir) k ≡ p → option_map shown_index o ≡ option_map shown_index p → IsPart (index_pages files dir) k o
    by_part None None is shown = is
    by_part None (Some part) is shown = absurd cc
    by_part (Some page) None is shown = absurd cc
    by_part (Some page) (Some part) is shown =
        let same : shown_index page ≡ shown_index part = cc in
        let both = alike page part same (page_good (index_pages files dir) k part good is) in
        record { part = part; there = is; good = both.0; read = both.1 }

-- ---- a page as it is written shows itself

zeros_are : little_bytes 8 0 ++ [] ≡ zero_bytes 8
unfolding zero_bytes
zeros_are = refl

header_is : (count : ℕ) → header count ≡ little_bytes 4 0x58524944 ++ (little_bytes 4 count ++ (little_bytes 8 0 ++ []))
unfolding spelled
header_is count = refl

pub shows_itself : (entries : List IndexEntry) (page : List ℕ) → page ≡ index_page_of entries → shown_index page ≡ page
shows_itself entries page is =
    let n = length entries in
    let rest = spelling entries ++ zero_bytes (8176 - 8 * n) in
    let front = little_bytes 4 0x58524944 ++ little_bytes 4 n in
    let long : length front ≡ 8 = omega (arith, length-append (little_bytes 4 0x58524944) (little_bytes 4 n), length-bytes_low_first 0 4 0x58524944, length-bytes_low_first 0 4 n) in
    let head : header n ≡ front ++ zero_bytes 8 = header_is n ∙ ap (λ (bs : List ℕ). little_bytes 4 0x58524944 ++ (little_bytes 4 n ++ bs)) zeros_are ∙ sym (append_assoc (little_bytes 4 0x58524944) (little_bytes 4 n) (zero_bytes 8)) in
    let grouped : page ≡ front ++ (zero_bytes 8 ++ rest) =
    is ∙ append_assoc (header n) (spelling entries) (zero_bytes (8176 - 8 * n)) ∙ ap (λ (bs : List ℕ). bs ++ rest) head ∙ append_assoc front (zero_bytes 8) rest in
    ap shown_index grouped ∙ over front (zero_bytes 8 ++ rest) (zero_bytes 8) 8 long
    ∙ ap (λ (bs : List ℕ). front ++ zero_bytes 8 ++ bs) (drop_at (zero_bytes 8) rest (length (zero_bytes 8)) refl)
    ∙ append_assoc front (zero_bytes 8) rest ∙ sym grouped

pub shown_page : (entries : List IndexEntry) (page : List ℕ) → IsPageOf entries page → IsPageOf entries (shown_index page)
shown_page entries page made = subst (IsPageOf entries) (sym (shows_itself entries page made.value)) made
