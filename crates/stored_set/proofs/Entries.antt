-- How many entries index pages say that they have.
use Rattle.std.proofs.Common.{◌≡◌, ◌∙◌, ℕ, zero, suc, ◌+◌, ◌≤◌, Option, Some, None, IfSome, IsSomeAnd, subst, List, [], ◌∷◌, ◌++◌, length, take, drop, slice_get, nat_le, cond, refl, sym, ap, arith, append_assoc, length-drop, length-take}
use Rattle.std.proofs.lemmas.List.{drop-append-le, take-append-drop, take-append-le}
use Rattle.std.proofs.Math.Seq.{drop-append-add, drop-append_seam, take-append_seam}
use Rattle.std.specs.Option.{option_and_then, option_map, option_map_or, unwrap_or}
use Rattle.index_pages.specs.domain_base.Page.{zero_bytes}
use Rattle.index_pages.specs.domain_base.declared.place.Home.{Home}
use Rattle.index_pages.specs.page_store.Bitfiles.{shown_index}
use Rattle.index_pages.specs.page_store.Pages.{Pages}
use Rattle.index_pages.specs.cell_records.Fields.{number_at}
use Rattle.index_pages.proofs.OfCellRecords.Bytes.{little_number-take}
use Rattle.index_pages.specs.Homes.{AreIndexHomes, IsIndexPage, shown_at}
use Rattle.index_pages.proofs.Changed.{good_numbered}
use Rattle.stored_set.specs.Whole.{entries_at, entries_on}

-- a number is the same where its bytes are
number_same : (w at : ℕ) (xs ys : List ℕ) → take w (drop at xs) ≡ take w (drop at ys) → number_at w at xs ≡ number_at w at ys
unfolding number_at
number_same w at xs ys same = little_number-take w (drop at xs) (drop at ys) same

in_front : (front rest : List ℕ) (w at : ℕ) → at + w ≤ length front → number_at w at (front ++ rest) ≡ number_at w at front
in_front front rest w at within =
    number_same w at (front ++ rest) front
    (ap (take w) (drop-append-le at front rest (omega (arith, within))) ∙ take-append-le w (drop at front) rest (omega (arith, length-drop at front, within)))

-- what is shown of a page says as many
pub shown_entries : (page : List ℕ) → length page ≡ 8192 → entries_on (shown_index page) ≡ entries_on page
shown_entries page whole = ap (λ n. cond (nat_le n 1022) n 0) count
  where
    long : 4 + 4 ≤ length (take 8 page)
    long = omega (arith, length-take 8 page, whole)

    count : number_at 4 4 (shown_index page) ≡ number_at 4 4 page
    count =
        ap (number_at 4 4) (append_assoc (take 8 page) (zero_bytes 8) (drop (8 + length (zero_bytes 8)) page)) ∙ in_front (take 8 page) (zero_bytes 8 ++ drop (8 + length (zero_bytes 8)) page) 4 4 long
        ∙ sym (in_front (take 8 page) (drop 8 page) 4 4 long) ∙ ap (number_at 4 4) (take-append-drop 8 page)

-- what stands at a home of an index
pub shown_there : (pages : Pages) (homes : List Home) (number : ℕ) → slice_get (shown_at pages homes) number ≡ option_map (λ home. shown_index (unwrap_or (pages home) [])) (slice_get homes number)
shown_there pages [] number = refl
shown_there pages (h ∷ homes) zero = refl
shown_there pages (h ∷ homes) (suc number) = shown_there pages homes number

-- how many the page at a home says
pub entries_there : (pages : Pages) (first : Option Home) (homes : List Home) (number : ℕ) (home : Home) (page : List ℕ) → AreIndexHomes pages first homes → slice_get homes number ≡ Some home → pages home ≡ Some page → entries_at number (shown_at pages homes) ≡ entries_on page
entries_there pages first homes number home page are at there =
    ap (λ o. option_map_or entries_on o 0) (shown_there pages homes number ∙ ap (option_map (λ home. shown_index (unwrap_or (pages home) []))) at ∙ ap (λ o. Some (shown_index (unwrap_or o []))) there)
    ∙ shown_entries page (subst (λ o. IfSome o (λ page. length page ≡ 8192)) there (by_page (pages home) (good_numbered pages first homes number home are at)))
  where
    by_page : (o : Option (List ℕ)) → IsSomeAnd o IsIndexPage → IfSome o (λ page. length page ≡ 8192)
    by_page None good = tt
    by_page (Some page) good = good.whole

-- what is shown of what is shown
pub shown_twice : (page : List ℕ) → length page ≡ 8192 → shown_index (shown_index page) ≡ shown_index page
shown_twice page whole =
    λ i. front i ++ zero_bytes 8 ++ tail i
  where
    rest : List ℕ
    rest = drop (8 + length (zero_bytes 8)) page

    long : length (take 8 page) ≡ 8
    long = omega (arith, length-take 8 page, whole)

    parts : shown_index page ≡ take 8 page ++ (zero_bytes 8 ++ rest)
    parts = append_assoc (take 8 page) (zero_bytes 8) rest

    front : take 8 (shown_index page) ≡ take 8 page
    front = ap (take 8) parts ∙ ap (λ n. take n (take 8 page ++ (zero_bytes 8 ++ rest))) (sym long) ∙ take-append_seam (take 8 page) (zero_bytes 8 ++ rest)

    tail : drop (8 + length (zero_bytes 8)) (shown_index page) ≡ rest
    tail = ap (drop (8 + length (zero_bytes 8))) parts ∙ ap (λ n. drop (n + length (zero_bytes 8)) (take 8 page ++ (zero_bytes 8 ++ rest))) (sym long)
        ∙ drop-append-add (take 8 page) (zero_bytes 8 ++ rest) (length (zero_bytes 8)) ∙ drop-append_seam (zero_bytes 8) rest

-- a page of an index as it stands and as it is shown
pub shown_same_there : (pages : Pages) (first : Option Home) (homes : List Home) (number : ℕ) → AreIndexHomes pages first homes → option_map shown_index (option_and_then pages (slice_get homes number)) ≡ option_map shown_index (slice_get (shown_at pages homes) number)
shown_same_there pages first homes number are = by_home (slice_get homes number) refl ∙ sym (ap (option_map shown_index) (shown_there pages homes number))
  where
    by_page : (o : Option (List ℕ)) → IsSomeAnd o IsIndexPage → option_map shown_index o ≡ Some (shown_index (shown_index (unwrap_or o [])))
    by_page None good = absurd good
    by_page (Some page) good = ap Some (sym (shown_twice page good.whole))

    by_home : (o : Option Home) → slice_get homes number ≡ o → option_map shown_index (option_and_then pages o) ≡ option_map shown_index (option_map (λ home. shown_index (unwrap_or (pages home) [])) o)
    by_home None at = refl
    by_home (Some home) at = by_page (pages home) (good_numbered pages first homes number home are at)

-- an index without a beginning has no page
pub none_shown_at : (pages : Pages) (homes : List Home) (number : ℕ) → AreIndexHomes pages None homes → slice_get (shown_at pages homes) number ≡ None
none_shown_at pages [] number are = refl
none_shown_at pages (h ∷ homes) number are = absurd are

-- a page stands at each home of an index
pub page_stands_there : (pages : Pages) (first : Option Home) (homes : List Home) (number : ℕ) (home : Home) → AreIndexHomes pages first homes → slice_get homes number ≡ Some home → pages home ≡ None → ⊥
page_stands_there pages first homes number home are at none = subst (λ o. IsSomeAnd o IsIndexPage) none (good_numbered pages first homes number home are at)
