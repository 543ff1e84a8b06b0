-- Pages of an index are well formed where what is shown of them is.
use Rattle.std.proofs.Common.{◌≡◌, ◌∙◌, ℕ, zero, suc, ◌+◌, ◌≤◌, List, [], ◌∷◌, ◌++◌, length, map, take, drop, Option, Some, None, IsSomeAnd, Contains, refl, sym, ap, subst, arith, append_assoc, length-append, length-drop, length-take}
use Rattle.std.proofs.lemmas.List.{drop-append-le, take-append-drop, take-append-le}
use Rattle.std.specs.List.{AllByRecursion, insert}
use Rattle.std.specs.Prelude.{unwrap_or}
use Rattle.domain_standing.specs.domain_base.Page.{zero_bytes, length-zero_bytes}
use Rattle.domain_standing.specs.domain_base.declared.place.Home.{Home}
use Rattle.domain_standing.specs.page_store.Bitfiles.{shown_index}
use Rattle.domain_standing.specs.page_store.Pages.{Pages}
use Rattle.domain_standing.specs.cell_records.Fields.{number_at}
use Rattle.domain_standing.proofs.OfCellRecords.Bytes.{little_number-take}
use Rattle.domain_standing.specs.directory_pages.Index.{IsIndexPage}
use Rattle.domain_standing.specs.index_pages.Homes.{AreIndexHomes, shown_at}
use Rattle.domain_standing.specs.index_pages.Homes.{IsIndexPage as IsStoredPage}
use Rattle.domain_standing.proofs.OfIndexPages.Changed.{good_numbered}
use Rattle.standing_laws.proofs.HomeLists.{in_get}

-- ---- one page

-- a number among the first bytes is that of these bytes
number_front : (front rest : List ℕ) (w at : ℕ) → at + w ≤ length front → number_at w at (front ++ rest) ≡ number_at w at front
unfolding number_at
number_front front rest w at within =
    little_number-take w (drop at (front ++ rest)) (drop at front)
    (ap (take w) (drop-append-le at front rest (omega (arith, within))) ∙ take-append-le w (drop at front) rest (omega (arith, length-drop at front, within)))

module _ (page : List ℕ) (whole : length page ≡ 8192) where
  parted : shown_index page ≡ take 8 page ++ (zero_bytes 8 ++ drop (8 + length (zero_bytes 8)) page)
  parted = append_assoc (take 8 page) (zero_bytes 8) (drop (8 + length (zero_bytes 8)) page)

  number_shown : (at : ℕ) → at + 4 ≤ 8 → number_at 4 at (shown_index page) ≡ number_at 4 at page
  number_shown at within =
      let long : at + 4 ≤ length (take 8 page) = omega (arith, length-take 8 page, whole, within) in
      ap (number_at 4 at) parted ∙ number_front (take 8 page) (zero_bytes 8 ++ drop (8 + length (zero_bytes 8)) page) 4 at long
      ∙ sym (number_front (take 8 page) (drop 8 page) 4 at long) ∙ ap (number_at 4 at) (take-append-drop 8 page)

  length_shown : length (shown_index page) ≡ 8192
  length_shown =
      omega (arith, length-append (take 8 page ++ zero_bytes 8) (drop (8 + length (zero_bytes 8)) page), length-append (take 8 page) (zero_bytes 8), length-take 8 page, length-drop (8 + length (zero_bytes 8)) page, whole, length-zero_bytes 8)

  good_of : IsIndexPage (shown_index page) → IsIndexPage page
  good_of good = record { whole = whole; magic = sym (number_shown 0 (omega arith)) ∙ good.magic; count = subst (λ n. n ≤ 1022) (number_shown 4 (omega arith)) good.count }

pub one_good : (page : List ℕ) → IsIndexPage page → IsIndexPage (shown_index page)
one_good page good = record {
  whole = length_shown page good.whole;
  magic = number_shown page good.whole 0 (omega arith) ∙ good.magic;
  count = subst (λ n. n ≤ 1022) (sym (number_shown page good.whole 4 (omega arith))) good.count;
}

-- ---- lists

pub all_insert : {X : Type 0} (P : X → Type 0) (xs : List X) (place : ℕ) (x : X) → AllByRecursion P xs → P x → AllByRecursion P (insert xs place x)
all_insert P [] zero x all is = (is, tt)
all_insert P [] (suc place) x all is = (is, tt)
all_insert P (y ∷ ys) zero x all is = (is, all)
all_insert P (y ∷ ys) (suc place) x all is = (all.0, all_insert P ys place x all.1 is)

all_suc : {X : Type 0} (P : X → Type 0) (xs : List X) (n : ℕ) (x : X) → AllByRecursion P xs → P x → AllByRecursion P (take n xs ++ x ∷ drop (suc n) xs)
all_suc P [] zero x all is = (is, tt)
all_suc P [] (suc n) x all is = (is, tt)
all_suc P (y ∷ ys) zero x all is = (is, all.1)
all_suc P (y ∷ ys) (suc n) x all is = (all.0, all_suc P ys n x all.1 is)

pub all_entry : {X : Type 0} (P : X → Type 0) (xs : List X) (n : ℕ) (x : X) → AllByRecursion P xs → P x → AllByRecursion P (take n xs ++ x ∷ drop (n + 1) xs)
all_entry P xs n x all is = let e : suc n ≡ n + 1 = omega arith in subst (λ m. AllByRecursion P (take n xs ++ x ∷ drop m xs)) e (all_suc P xs n x all is)

of_map : {X Y : Type 0} (P : Y → Type 0) (f : X → Y) (xs : List X) → AllByRecursion P (map f xs) → (x : X) → Contains xs x → P (f x)
of_map P f [] all x (k, within, is) = absurd (omega (arith, within))
of_map P f (y ∷ ys) all x (zero, within, is) = subst (λ z. P (f z)) is all.0
of_map P f (y ∷ ys) all x (suc k, within, is) = of_map P f ys all.1 x (k, omega (arith, within), is)

to_map : {X Y : Type 0} (P : Y → Type 0) (f : X → Y) (xs : List X) → ((x : X) → Contains xs x → P (f x)) → AllByRecursion P (map f xs)
to_map P f [] each = tt
to_map P f (y ∷ ys) each = (each y (0, omega arith, refl), to_map P f ys (λ x inside. each x (suc inside.0, omega (arith, inside.1), inside.2)))

-- ---- pages of an index

pub shown_good : (pages : Pages) (homes : List Home) → ((home : Home) → Contains homes home → IsSomeAnd (pages home) IsIndexPage) → AllByRecursion IsIndexPage (shown_at pages homes)
shown_good pages homes good = to_map IsIndexPage (λ home. shown_index (unwrap_or (pages home) [])) homes (λ home inside. by_page (pages home) (good home inside))
  where
    by_page : (o : Option (List ℕ)) → IsSomeAnd o IsIndexPage → IsIndexPage (shown_index (unwrap_or o []))
    by_page None is = absurd is
    by_page (Some page) is = one_good page is

pub good_shown : (pages : Pages) (first : Option Home) (homes : List Home) → AreIndexHomes pages first homes → AllByRecursion IsIndexPage (shown_at pages homes) → (home : Home) → Contains homes home
    → IsSomeAnd (pages home) IsIndexPage
good_shown pages first homes are all home inside =
    let k = in_get homes home inside in
    by_page (pages home) (good_numbered pages first homes k.0 home are k.1) (of_map IsIndexPage (λ h. shown_index (unwrap_or (pages h) [])) homes all home inside)
  where
    by_page : (o : Option (List ℕ)) → IsSomeAnd o IsStoredPage → IsIndexPage (shown_index (unwrap_or o [])) → IsSomeAnd o IsIndexPage
    by_page None is good = absurd is
    by_page (Some page) is good = good_of page is.whole good
