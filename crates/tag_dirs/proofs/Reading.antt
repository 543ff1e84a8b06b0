-- A directory that is read page by page, along its chain.
use Rattle.std.proofs.Common.{◌≡◌, ◌∙◌, ◌⊎◌, inl, inr, ℕ, zero, suc, ◌+◌, ◌<◌, ◌≤◌, Bool, true, false, cond, nat_eq, Option, Some, None, IfSome, IsSomeAnd, List, [], ◌∷◌, ◌++◌, length, map, slice_get, append_assoc, length-append, refl, sym, ap, subst, arith}
use Rattle.std.proofs.lemmas.Bool.{eqb-true, or_cases, true≢false}
use Rattle.std.proofs.lemmas.List.{append-nil}
use Rattle.std.proofs.lemmas.Map.Steps.{length-le_from_distinct_below}
use Rattle.std.proofs.lemmas.Option.{slice_get_within}
use Rattle.std.specs.List.{AllByRecursion, IsDistinct, list_any}
use Rattle.std.specs.Option.{option_map}
use Rattle.metadata_cells.specs.domain_base.declared.place.Home.{Home}
use Rattle.metadata_cells.specs.page_store.Pages.{Pages}
use Rattle.tag_dirs.specs.declared.dir.TagPlace.{TagPlace}
use Rattle.tag_dirs.specs.TagPage.{index_of}
use Rattle.tag_dirs.specs.Directory.{CanJoin, IsDirectory, IsDirectoryAt, IsPageOf, JoinsPage, home_behind, home_with}
use Rattle.tag_dirs.proofs.Places.{get_at}
use Rattle.tag_dirs.proofs.Slots.{map_and, none_is_some, same_some}

abbrev pub first_home : List TagPlace → Option Home
first_home places = option_map (λ (p : TagPlace). p.home) (slice_get places 0)

-- ---- places on both sides of one

get_after : (done : List TagPlace) (p : TagPlace) (ps : List TagPlace) (k : ℕ) → k ≡ length done + 1 → slice_get (done ++ p ∷ ps) k ≡ slice_get ps 0
get_after [] p ps zero is = absurd (omega (arith, is))
get_after [] p ps (suc k) is = ap (slice_get ps) (omega (arith, is))
get_after (x ∷ xs) p ps zero is = absurd (omega (arith, is))
get_after (x ∷ xs) p ps (suc k) is = get_after xs p ps k (omega (arith, is))

get_before : (done rest : List TagPlace) (k : ℕ) (q : TagPlace) → slice_get done k ≡ Some q → slice_get (done ++ rest) k ≡ Some q
get_before [] rest k q is = absurd (none_is_some q is)
get_before (x ∷ xs) rest zero q is = is
get_before (x ∷ xs) rest (suc k) q is = get_before xs rest k q is

-- no place has the index
none_with_index : (places : List TagPlace) (i : ℕ) → ((k : ℕ) (q : TagPlace) → slice_get places k ≡ Some q → ¬ q.index ≡ i) → home_with places i ≡ None
none_with_index [] i none = refl
none_with_index (x ∷ xs) i none = by_test (none_with_index xs i (λ k q at. none (suc k) q at)) (nat_eq x.index i) refl
  where
    by_test : home_with xs i ≡ None → (b : Bool) → nat_eq x.index i ≡ b → home_with (x ∷ xs) i ≡ None
    by_test later true same = absurd (none 0 x refl (eqb-true x.index i same))
    by_test later false other = ap (λ b. cond b (Some x.home) (home_with xs i)) other ∙ later

-- ---- there are not more pages than indexes

all_other : (x : TagPlace) (xs : List TagPlace) → ((k : ℕ) (q : TagPlace) → slice_get xs k ≡ Some q → ¬ x.index ≡ q.index) → AllByRecursion (λ y. nat_eq x.index y ≡ false) (map (λ (p : TagPlace). p.index) xs)
all_other x [] other = tt
all_other x (y ∷ ys) other = (by_test (nat_eq x.index y.index) refl, all_other x ys (λ k q at. other (suc k) q at))
  where
    by_test : (b : Bool) → nat_eq x.index y.index ≡ b → nat_eq x.index y.index ≡ false
    by_test true same = absurd (other 0 y refl (eqb-true x.index y.index same))
    by_test false is = is

abbrev Apart : List TagPlace → Type 0
Apart places = (j k : ℕ) (p q : TagPlace) → slice_get places j ≡ Some p → slice_get places k ≡ Some q → p.index ≡ q.index → j ≡ k

distinct_indexes : (places : List TagPlace) → Apart places → IsDistinct nat_eq (map (λ (p : TagPlace). p.index) places)
unfolding IsDistinct
distinct_indexes [] apart = tt
distinct_indexes (x ∷ xs) apart = (all_other x xs (λ k q at same. not_zero k (apart 0 (suc k) x q refl at same)), distinct_indexes xs (λ j k p q a b same. less j k (apart (suc j) (suc k) p q a b same)))
  where
    not_zero : (k : ℕ) → 0 ≡ suc k → ⊥
    not_zero k is = omega (arith, is)

    less : (j k : ℕ) → suc j ≡ suc k → j ≡ k
    less j k is = omega (arith, is)

indexes_below : (places : List TagPlace) (n : ℕ) → ((k : ℕ) (p : TagPlace) → slice_get places k ≡ Some p → p.index < n) → (q : ℕ) → list_any (nat_eq q) (map (λ (p : TagPlace). p.index) places) ≡ true → q < n
indexes_below [] n below q there = absurd (true≢false (sym there))
indexes_below (x ∷ xs) n below q there = by_case (or_cases (nat_eq q x.index) (list_any (nat_eq q) (map (λ (p : TagPlace). p.index) xs)) there) (indexes_below xs n (λ k p at. below (suc k) p at) q)
  where
    by_case : (nat_eq q x.index ≡ true) ⊎ (list_any (nat_eq q) (map (λ (p : TagPlace). p.index) xs) ≡ true) → (list_any (nat_eq q) (map (λ (p : TagPlace). p.index) xs) ≡ true → q < n) → q < n
    by_case (inl same) later = subst (λ i. i < n) (sym (eqb-true q x.index same)) (below 0 x refl)
    by_case (inr more) later = later more

length_map : (places : List TagPlace) → length (map (λ (p : TagPlace). p.index) places) ≡ length places
length_map [] = refl
length_map (x ∷ xs) = ap suc (length_map xs)

-- the page of a place
page_at : (pages : Pages) (places : List TagPlace) → IsDirectory pages places → (k : ℕ) (p : TagPlace) → slice_get places k ≡ Some p → IsSomeAnd (pages p.home) (IsPageOf p (home_behind places k))
page_at pages places dir k p at = subst (λ o. IfSome o (λ (place : TagPlace). IsSomeAnd (pages place.home) (IsPageOf place (home_behind places k)))) at (dir.run k)

index_below : (p : TagPlace) (next : Option Home) (o : Option (List ℕ)) → IsSomeAnd o (IsPageOf p next) → p.index < 4202512
index_below p next None is = absurd is
index_below p next (Some page) is = subst (λ n. n < 4202512) is.indexed is.good.index

pub at_most : (pages : Pages) (places : List TagPlace) → IsDirectory pages places → length places ≤ 4202512
at_most pages places dir =
    subst (λ n. n ≤ 4202512) (length_map places)
    (length-le_from_distinct_below (map (λ (p : TagPlace). p.index) places) 4202512 (distinct_indexes places apart)
    (indexes_below places 4202512 (λ k p at. index_below p (home_behind places k) (pages p.home) (page_at pages places dir k p at))))
  where
    apart : Apart places
    apart = dir.apart

-- ---- the places that were read so far, and the home of the page to read next

pub record IsOnWay (pages : Pages) (first : Home) (done : List TagPlace) (next : Option Home) : Type 0 where
  pub rest : List TagPlace
  pub directory : IsDirectoryAt pages first (done ++ rest)
  pub next_is : next ≡ first_home rest

pub on_way_last : (pages : Pages) (first : Home) (done : List TagPlace) → IsOnWay pages first done None → IsDirectoryAt pages first done
on_way_last pages first done on = by_rest on.rest on.directory on.next_is
  where
    by_rest : (rest : List TagPlace) → IsDirectoryAt pages first (done ++ rest) → None ≡ first_home rest → IsDirectoryAt pages first done
    by_rest [] dir is = subst (IsDirectoryAt pages first) (append-nil done) dir
    by_rest (p ∷ ps) dir is = absurd (none_is_some p.home is)

-- what is so of the page that is read next
pub record IsNext (pages : Pages) (first : Home) (done : List TagPlace) (home : Home) : Type 0 where
  pub p : TagPlace
  pub ps : List TagPlace
  pub directory : IsDirectoryAt pages first (done ++ p ∷ ps)
  pub stands : p.home ≡ home
  pub page : IsSomeAnd (pages home) (IsPageOf p (first_home ps))

next_page : (pages : Pages) (first : Home) (done : List TagPlace) (home : Home) → IsOnWay pages first done (Some home) → IsNext pages first done home
next_page pages first done home on = by_rest on.rest on.directory on.next_is
  where
    by_rest : (rest : List TagPlace) → IsDirectoryAt pages first (done ++ rest) → Some home ≡ first_home rest → IsNext pages first done home
    by_rest [] dir is = absurd (none_is_some home (sym is))
    by_rest (p ∷ ps) dir is =
        let stands : p.home ≡ home = sym (same_some home p.home is) in
        let there : slice_get (done ++ p ∷ ps) (length done) ≡ Some p = get_at done p ps (length done) refl in
        let behind : home_behind (done ++ p ∷ ps) (length done) ≡ first_home ps = ap (option_map (λ (x : TagPlace). x.home)) (get_after done p ps (length done + 1) refl) in
        let page = page_at pages (done ++ p ∷ ps) dir.directory (length done) p there in
        record {
          p = p;
          ps = ps;
          directory = dir;
          stands = stands;
          page = subst (λ h. IsSomeAnd (pages h) (IsPageOf p (first_home ps))) stands (subst (λ n. IsSomeAnd (pages p.home) (IsPageOf p n)) behind page);
        }

pub next_joins : (pages : Pages) (first : Home) (done : List TagPlace) (home : Home) → IsOnWay pages first done (Some home) → IsSomeAnd (pages home) (CanJoin done)
next_joins pages first done home on = map_and (λ page is. record { good = is.good; unused = subst (λ i. home_with done i ≡ None) (sym is.indexed) unused }) (pages home) n.page
  where
    n : IsNext pages first done home
    n = next_page pages first done home on

    unused : home_with done n.p.index ≡ None
    unused = none_with_index done n.p.index
        (λ k q at same. not_both k (slice_get_within done k q at) (n.directory.directory.apart k (length done) q n.p (get_before done (n.p ∷ n.ps) k q at) (get_at done n.p n.ps (length done) refl) same))
      where
        not_both : (k : ℕ) → k < length done → k ≡ length done → ⊥
        not_both k less same = omega (arith, less, same)

pub room_left : (pages : Pages) (first : Home) (done : List TagPlace) (home : Home) → IsOnWay pages first done (Some home) → length done < 4202512
room_left pages first done home on = longer (length_with done) (at_most pages (done ++ n.p ∷ n.ps) n.directory.directory)
  where
    n : IsNext pages first done home
    n = next_page pages first done home on

    length_with : (xs : List TagPlace) → length xs < length (xs ++ n.p ∷ n.ps)
    length_with [] = omega arith
    length_with (x ∷ xs) = let rest = length_with xs in omega (arith, rest)

    longer : length done < length (done ++ n.p ∷ n.ps) → length (done ++ n.p ∷ n.ps) ≤ 4202512 → length done < 4202512
    longer less most = omega (arith, less, most)

pub on_way_next : (pages : Pages) (first : Home) (done new : List TagPlace) (home : Home) (next : Option Home) → IsOnWay pages first done (Some home)
    → IsSomeAnd (pages home) (λ page. JoinsPage home page done new next) → IsOnWay pages first new next
on_way_next pages first done new home next on joins = by_page (pages home) n.page joins
  where
    n : IsNext pages first done home
    n = next_page pages first done home on

    by_page : (o : Option (List ℕ)) → IsSomeAnd o (IsPageOf n.p (first_home n.ps)) → IsSomeAnd o (λ page. JoinsPage home page done new next) → IsOnWay pages first new next
    by_page None is joins = absurd is
    by_page (Some page) is joins =
        let place : record { index = index_of page; home = home } ≡ n.p = λ i. record { index = is.indexed i; home = sym n.stands i } in
        let whole : new ++ n.ps ≡ done ++ n.p ∷ n.ps = ap (λ (ps : List TagPlace). ps ++ n.ps) (joins.joined ∙ ap (λ (p : TagPlace). done ++ p ∷ []) place) ∙ append_assoc done (n.p ∷ []) n.ps in
        record {
          rest = n.ps;
          directory = subst (IsDirectoryAt pages first) (sym whole) n.directory;
          next_is = joins.linked ∙ is.linked;
        }

-- one place more
pub one_longer : (o : Option (List ℕ)) (home : Home) (done new : List TagPlace) (next : Option Home) → IsSomeAnd o (λ page. JoinsPage home page done new next) → length new ≡ length done + 1
one_longer None home done new next joins = absurd joins
one_longer (Some page) home done new next joins = ap length joins.joined ∙ length-append done ((record { index = index_of page; home = home }) ∷ [])

-- ---- the pages say which places there are

abbrev IsRun : Pages → List TagPlace → Type 0
IsRun pages places = (k : ℕ) → IfSome (slice_get places k) (λ place. IsSomeAnd (pages place.home) (IsPageOf place (home_behind places k)))

run_tail : (pages : Pages) (x : TagPlace) (xs : List TagPlace) → IsRun pages (x ∷ xs) → IsRun pages xs
run_tail pages x xs run k =
    subst (λ n. IfSome (slice_get xs k) (λ (place : TagPlace). IsSomeAnd (pages place.home) (IsPageOf place (option_map (λ (p : TagPlace). p.home) (slice_get (x ∷ xs) n))))) (next k) (run (suc k))
  where
    next : (k : ℕ) → suc k + 1 ≡ suc (k + 1)
    next k = omega arith

same_run : (pages : Pages) (a b : List TagPlace) → IsRun pages a → IsRun pages b → first_home a ≡ first_home b → a ≡ b
same_run pages [] [] of_a of_b same = refl
same_run pages [] (y ∷ ys) of_a of_b same = absurd (none_is_some y.home same)
same_run pages (x ∷ xs) [] of_a of_b same = absurd (none_is_some x.home (sym same))
same_run pages (x ∷ xs) (y ∷ ys) of_a of_b same =
    let homes : x.home ≡ y.home = same_some x.home y.home same in
    let both = by_page (pages x.home) (of_a 0) (subst (λ h. IsSomeAnd (pages h) (IsPageOf y (first_home ys))) (sym homes) (of_b 0)) in
    let place : x ≡ y = λ i. record { index = both.0 i; home = homes i } in
    let rest : xs ≡ ys = same_run pages xs ys (run_tail pages x xs of_a) (run_tail pages y ys of_b) both.1 in
    (λ i. place i ∷ rest i)
  where
    by_page : (o : Option (List ℕ)) → IsSomeAnd o (IsPageOf x (first_home xs)) → IsSomeAnd o (IsPageOf y (first_home ys)) → (x.index ≡ y.index) × (first_home xs ≡ first_home ys)
    by_page None a b = absurd a
    by_page (Some page) a b = (sym a.indexed ∙ b.indexed, sym a.linked ∙ b.linked)

pub same_directory : (pages : Pages) (first : Home) (a b : List TagPlace) → IsDirectoryAt pages first a → IsDirectoryAt pages first b → a ≡ b
same_directory pages first a b of_a of_b = same_run pages a b run_a run_b (begins a of_a ∙ sym (begins b of_b))
  where
    begins : (places : List TagPlace) → IsDirectoryAt pages first places → first_home places ≡ Some first
    begins places is = by_first (slice_get places 0) is.begins
      where
        by_first : (o : Option TagPlace) → IsSomeAnd o (λ place. place.home ≡ first) → option_map (λ (p : TagPlace). p.home) o ≡ Some first
        by_first None is = absurd is
        by_first (Some p) is = ap Some is

    run_a : IsRun pages a
    run_a = of_a.directory.run

    run_b : IsRun pages b
    run_b = of_b.directory.run
