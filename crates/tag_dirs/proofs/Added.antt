-- A directory with one page more.
use Rattle.std.proofs.Common.{◌≡◌, ◌∙◌, ◌⊎◌, inl, inr, ℕ, zero, suc, ◌+◌, ◌/◌, ◌%◌, ◌<◌, ◌≤◌, Bool, true, false, cond, nat_eq, Option, Some, None, IfSome, IsSomeAnd, List, [], ◌∷◌, ◌++◌, length, slice_get, refl, sym, ap, subst, arith}
use Rattle.std.proofs.lemmas.Bool.{cases_lt, eqb-true, eq-eqb, both_ways, or_left, or_right}
use Rattle.std.proofs.lemmas.Option.{slice_get_within}
use Rattle.std.specs.Option.{option_and_then, option_map}
use Rattle.metadata_cells.specs.domain_base.declared.place.Home.{Home}
use Rattle.metadata_cells.specs.page_store.Pages.{Pages, same_home, with_page}
use Rattle.metadata_cells.proofs.Changed.{homes_same, same_itself}
use Rattle.tag_dirs.specs.declared.dir.TagPlace.{TagPlace}
use Rattle.tag_dirs.specs.declared.page.TagEntry.{TagEntry}
use Rattle.tag_dirs.specs.TagPage.{IsNewPage, IsTagPage, entry_of}
use Rattle.tag_dirs.specs.Directory.{AddsPage, IsDirectory, IsLast, IsPageOf, Leads, LinksAt, LinksLast, entry_at, has_home, home_behind, home_with}
use Rattle.tag_dirs.proofs.Places.{get_at, home_pushed}
use Rattle.tag_dirs.proofs.Slots.{found, same_some}

-- ---- places with one more after them

get_front : (places : List TagPlace) (p : TagPlace) (k : ℕ) → k < length places → slice_get (places ++ p ∷ []) k ≡ slice_get places k
get_front [] p k less = absurd (omega (arith, less))
get_front (x ∷ xs) p zero less = refl
get_front (x ∷ xs) p (suc k) less = get_front xs p k (omega (arith, less))

get_none : (places : List TagPlace) (p : TagPlace) (k : ℕ) → length places < k → slice_get (places ++ p ∷ []) k ≡ None
get_none [] p zero less = absurd (omega (arith, less))
get_none [] p (suc k) less = refl
get_none (x ∷ xs) p zero less = absurd (omega (arith, less))
get_none (x ∷ xs) p (suc k) less = get_none xs p k (omega (arith, less))

listed : (places : List TagPlace) (k : ℕ) (p : TagPlace) → slice_get places k ≡ Some p → has_home places p.home ≡ true
listed [] k p there = absurd (none_is there)
  where
    none_is : None ≡ Some p → ⊥
    none_is is = subst Test is tt
      where
        Test : Option TagPlace → Type 0
        Test None = Unit {0}
        Test (Some y) = ⊥
listed (x ∷ xs) zero p there =
    let same = same_some x p there in
    or_left (same_home p.home x.home) (has_home xs p.home) (ap (λ (q : TagPlace). same_home p.home q.home) same ∙ same_itself p.home)
listed (x ∷ xs) (suc k) p there = or_right (same_home p.home x.home) (has_home xs p.home) (listed xs k p there)

-- no place of places has an index that none is found with
none_with : (places : List TagPlace) (k : ℕ) (q : TagPlace) (i : ℕ) → slice_get places k ≡ Some q → home_with places i ≡ None → q.index ≡ i → ⊥
none_with places k q i there none same = go places k there none
  where
    some_is : {h : Home} → Some h ≡ None → ⊥
    some_is is = subst Test is tt
      where
        Test : Option Home → Type 0
        Test None = ⊥
        Test (Some y) = Unit {0}

    none_is : None ≡ Some q → ⊥
    none_is is = subst Test is tt
      where
        Test : Option TagPlace → Type 0
        Test None = Unit {0}
        Test (Some y) = ⊥

    go : (places : List TagPlace) (k : ℕ) → slice_get places k ≡ Some q → home_with places i ≡ None → ⊥
    go [] k there none = none_is there
    go (x ∷ xs) zero there none =
        some_is (sym (ap (λ b. cond b (Some x.home) (home_with xs i)) (eq-eqb x.index i (ap (λ (p : TagPlace). p.index) (same_some x q there) ∙ same))) ∙ none)
    go (x ∷ xs) (suc k) there none = by_test (nat_eq x.index i) refl (λ later. go xs k there later)
      where
        by_test : (b : Bool) → nat_eq x.index i ≡ b → (home_with xs i ≡ None → ⊥) → ⊥
        by_test true is later = some_is (sym (ap (λ b. cond b (Some x.home) (home_with xs i)) is) ∙ none)
        by_test false other later = later (sym (ap (λ b. cond b (Some x.home) (home_with xs i)) other) ∙ none)

-- ---- a page is put after the last one, which leads to it

module _ (old mid new : Pages) (places : List TagPlace) (index : ℕ) (home : Home) (page : List ℕ) (dir : IsDirectory old places) (first : places ≡ [] → index ≡ 0) (unused : home_with places index ≡ None)
    (apart : has_home places home ≡ false) (link : LinksLast places home old mid) (put : new ≡ with_page home page mid) (is : IsNewPage index page) where
  abbrev p : TagPlace
  p = record { index = index; home = home }

  abbrev all : List TagPlace
  all = places ++ p ∷ []

  there : new home ≡ Some page
  there = ap (λ (ps : Pages). ps home) put ∙ ap (λ (b : Bool). cond b (Some page) (mid home)) (same_itself home)

  away : (h : Home) → same_home h home ≡ false → new h ≡ mid h
  away h other = ap (λ (ps : Pages). ps h) put ∙ ap (λ (b : Bool). cond b (Some page) (mid h)) other

  not_home : (h : Home) → has_home places h ≡ true → same_home h home ≡ false
  not_home h in_places = by_test (same_home h home) refl
    where
      by_test : (b : Bool) → same_home h home ≡ b → same_home h home ≡ false
      by_test true same = absurd (both_ways (has_home places home) apart (ap (has_home places) (sym (homes_same h home same)) ∙ in_places))
      by_test false other = other

  abbrev read : ℕ → List ℕ → TagEntry
  read s page = entry_of page (s % 1022)

  same_index : (a b : TagPlace) (na nb : Option Home) → IsSomeAnd (old a.home) (IsPageOf a na) → IsSomeAnd (old b.home) (IsPageOf b nb) → a.home ≡ b.home → a.index ≡ b.index
  same_index a b na nb of_a of_b same = go (old a.home) of_a (subst (λ h. IsSomeAnd (old h) (IsPageOf b nb)) (sym same) of_b)
    where
      go : (o : Option (List ℕ)) → IsSomeAnd o (IsPageOf a na) → IsSomeAnd o (IsPageOf b nb) → a.index ≡ b.index
      go None x y = absurd x
      go (Some page) x y = sym x.indexed ∙ y.indexed

  old_page : (k : ℕ) (q : TagPlace) → slice_get places k ≡ Some q → IsSomeAnd (old q.home) (IsPageOf q (home_behind places k))
  old_page k q at = subst (λ o. IfSome o (λ (place : TagPlace). IsSomeAnd (old place.home) (IsPageOf place (home_behind places k)))) at (dir.run k)

  -- a page at a place after the link
  linked_page : (k : ℕ) (q : TagPlace) → slice_get places k ≡ Some q → IsSomeAnd (mid q.home) (IsPageOf q (home_behind all k))
  linked_page k q at = by_link link
    where
      none_is : None ≡ Some q → ⊥
      none_is is = subst Test is tt
        where
          Test : Option TagPlace → Type 0
          Test None = Unit {0}
          Test (Some y) = ⊥

      by_link : LinksLast places home old mid → IsSomeAnd (mid q.home) (IsPageOf q (home_behind all k))
      by_link (inl none) = absurd (none_is (sym (ap (λ ps. slice_get ps k) none.0) ∙ at))
      by_link (inr l) = by_place (nat_eq k l.k) refl
        where
          last_page : q ≡ l.p → k ≡ l.k → IsSomeAnd (mid q.home) (IsPageOf q (home_behind all k))
          last_page same here =
              let behind : home_behind all k ≡ Some home = ap (option_map (λ (x : TagPlace). x.home)) (get_at places p [] (k + 1) (omega (arith, here, l.last))) in
              let homes : q.home ≡ l.p.home = ap (λ (x : TagPlace). x.home) same in
              let was : IsPageOf q (home_behind places k) l.links.page = subst (λ o. IsSomeAnd o (IsPageOf q (home_behind places k))) (ap old homes ∙ l.links.was) (old_page k q at) in
              subst (λ o. IsSomeAnd o (IsPageOf q (home_behind all k))) (sym (ap mid homes ∙ l.links.is))
              (record { good = l.links.change.good; indexed = l.links.change.index ∙ was.indexed; linked = l.links.change.next ∙ sym behind })

          other_home : ¬ k ≡ l.k → (b : Bool) → same_home q.home l.p.home ≡ b → same_home q.home l.p.home ≡ false
          other_home other true same =
              absurd (other (dir.apart k l.k q l.p at l.there
              (same_index q l.p (home_behind places k) (home_behind places l.k) (old_page k q at) (old_page l.k l.p l.there) (homes_same q.home l.p.home same))))
          other_home other false same = same

          by_place : (b : Bool) → nat_eq k l.k ≡ b → IsSomeAnd (mid q.home) (IsPageOf q (home_behind all k))
          by_place true same =
              let here = eqb-true k l.k same in
              last_page (same_some q l.p (sym at ∙ subst (λ n. slice_get places n ≡ Some l.p) (sym here) l.there)) here
          by_place false other =
              let apart : ¬ k ≡ l.k = λ same. both_ways (nat_eq k l.k) other (eq-eqb k l.k same) in
              let behind : home_behind all k ≡ home_behind places k
              = ap (option_map (λ (x : TagPlace). x.home)) (get_front places p (k + 1) (before apart (slice_get_within places k q at))) in
              subst (λ o. IsSomeAnd o (IsPageOf q (home_behind all k))) (sym (l.links.elsewhere q.home (other_home apart (same_home q.home l.p.home) refl)))
              (subst (λ n. IsSomeAnd (old q.home) (IsPageOf q n)) (sym behind) (old_page k q at))
            where
              before : ¬ k ≡ l.k → k < length places → k + 1 < length places
              before apart less = omega (arith, apart, less, l.last)

  mid_entries : (s : ℕ) (h : Home) → option_map (read s) (mid h) ≡ option_map (read s) (old h)
  mid_entries s h = by_link link
    where
      by_link : LinksLast places home old mid → option_map (read s) (mid h) ≡ option_map (read s) (old h)
      by_link (inl none) = ap (λ (ps : Pages). option_map (read s) (ps h)) none.1
      by_link (inr l) = by_home (same_home h l.p.home) refl
        where
          by_home : (b : Bool) → same_home h l.p.home ≡ b → option_map (read s) (mid h) ≡ option_map (read s) (old h)
          by_home true same =
              let here = homes_same h l.p.home same in
              ap (option_map (read s)) (ap mid here ∙ l.links.is) ∙ ap Some (l.links.change.entries (s % 1022)) ∙ sym (ap (option_map (read s)) (ap old here ∙ l.links.was))
          by_home false other = ap (option_map (read s)) (l.links.elsewhere h other)

  abbrev fresh : TagEntry
  fresh = record { seq = 0; at = None }

  entries : (s : ℕ) → entry_at new all s ≡ cond (nat_eq (s / 1022) index) (Some fresh) (entry_at old places s)
  entries s = by_index (nat_eq index (s / 1022)) refl
    where
      read_at : Pages → Option Home → Option TagEntry
      read_at ps o = option_map (read s) (option_and_then ps o)

      after : Bool → Option TagEntry
      after b = cond b (Some fresh) (entry_at old places s)

      flip : (b : Bool) → nat_eq index (s / 1022) ≡ b → nat_eq (s / 1022) index ≡ b
      flip true same = eq-eqb (s / 1022) index (sym (eqb-true index (s / 1022) same))
      flip false other = by_test (nat_eq (s / 1022) index) refl
        where
          by_test : (b : Bool) → nat_eq (s / 1022) index ≡ b → nat_eq (s / 1022) index ≡ false
          by_test true is = absurd (both_ways (nat_eq index (s / 1022)) other (eq-eqb index (s / 1022) (sym (eqb-true (s / 1022) index is))))
          by_test false is = is

      stands : (b : Bool) → nat_eq index (s / 1022) ≡ b → home_with all (s / 1022) ≡ cond b (Some home) (home_with places (s / 1022))
      stands b is = home_pushed places p (s / 1022) unused ∙ ap (λ b. cond b (Some home) (home_with places (s / 1022))) is

      stays : (o : Option Home) → home_with places (s / 1022) ≡ o → read_at new o ≡ read_at old o
      stays None at = refl
      stays (Some h) at = ap (option_map (read s)) (away h (not_home h (found places (s / 1022) h at).listed)) ∙ mid_entries s h

      by_index : (b : Bool) → nat_eq index (s / 1022) ≡ b → entry_at new all s ≡ after (nat_eq (s / 1022) index)
      by_index true same =
          ap (read_at new) (stands true same) ∙ ap (option_map (read s)) there ∙ ap Some (is.fresh (s % 1022) (omega arith)) ∙ sym (ap after (flip true same))
      by_index false other = ap (read_at new) (stands false other) ∙ stays (home_with places (s / 1022)) refl ∙ sym (ap after (flip false other))

  order : (k n : ℕ) → (k < n) ⊎ ((k ≡ n) ⊎ (n < k))
  order k n = elim (cases_lt k n) [ inl less ↦ inl less | inr more ↦ elim (cases_lt n k) [ inl less ↦ inr (inr less) | inr same ↦ inr (inl (omega (arith, more, same))) ] ]

  run : (k : ℕ) → IfSome (slice_get all k) (λ place. IsSomeAnd (new place.home) (IsPageOf place (home_behind all k)))
  run k = by_order (order k (length places))
    where
      front : (o : Option TagPlace) → slice_get places k ≡ o → IfSome o (λ place. IsSomeAnd (new place.home) (IsPageOf place (home_behind all k)))
      front None at = tt
      front (Some q) at = subst (λ o. IsSomeAnd o (IsPageOf q (home_behind all k))) (sym (away q.home (not_home q.home (listed places k q at)))) (linked_page k q at)

      by_order : (k < length places) ⊎ ((k ≡ length places) ⊎ (length places < k)) → IfSome (slice_get all k) (λ place. IsSomeAnd (new place.home) (IsPageOf place (home_behind all k)))
      by_order (inl less) = subst (λ o. IfSome o (λ (place : TagPlace). IsSomeAnd (new place.home) (IsPageOf place (home_behind all k)))) (sym (get_front places p k less)) (front (slice_get places k) refl)
      by_order (inr (inl same)) =
          let behind : home_behind all k ≡ None = ap (option_map (λ (x : TagPlace). x.home)) (get_none places p (k + 1) (omega (arith, same))) in
          subst (λ o. IfSome o (λ (place : TagPlace). IsSomeAnd (new place.home) (IsPageOf place (home_behind all k)))) (sym (get_at places p [] k same))
          (subst (λ o. IsSomeAnd o (IsPageOf p (home_behind all k))) (sym there) (record { good = is.good; indexed = is.indexed; linked = is.last ∙ sym behind }))
      by_order (inr (inr more)) = subst (λ o. IfSome o (λ (place : TagPlace). IsSomeAnd (new place.home) (IsPageOf place (home_behind all k)))) (sym (get_none places p k more)) tt

  -- what stands at a place: one of the old places, or the new one
  which : (k : ℕ) (q : TagPlace) → slice_get all k ≡ Some q → (slice_get places k ≡ Some q) ⊎ ((k ≡ length places) × (p ≡ q))
  which k q at = by_order (order k (length places))
    where
      none_is : None ≡ Some q → ⊥
      none_is is = subst Test is tt
        where
          Test : Option TagPlace → Type 0
          Test None = Unit {0}
          Test (Some y) = ⊥

      by_order : (k < length places) ⊎ ((k ≡ length places) ⊎ (length places < k)) → (slice_get places k ≡ Some q) ⊎ ((k ≡ length places) × (p ≡ q))
      by_order (inl less) = inl (sym (get_front places p k less) ∙ at)
      by_order (inr (inl same)) = inr (same, same_some p q (sym (get_at places p [] k same) ∙ at))
      by_order (inr (inr more)) = absurd (none_is (sym (get_none places p k more) ∙ at))

  distinct : (j k : ℕ) (a b : TagPlace) → slice_get all j ≡ Some a → slice_get all k ≡ Some b → a.index ≡ b.index → j ≡ k
  distinct j k a b at_j at_k same = go (which j a at_j) (which k b at_k)
    where
      go : (slice_get places j ≡ Some a) ⊎ ((j ≡ length places) × (p ≡ a)) → (slice_get places k ≡ Some b) ⊎ ((k ≡ length places) × (p ≡ b)) → j ≡ k
      go (inl of_a) (inl of_b) = dir.apart j k a b of_a of_b same
      go (inl of_a) (inr of_b) = absurd (none_with places j a index of_a unused (same ∙ sym (ap (λ (x : TagPlace). x.index) of_b.1)))
      go (inr of_a) (inl of_b) = absurd (none_with places k b index of_b unused (sym same ∙ sym (ap (λ (x : TagPlace). x.index) of_a.1)))
      go (inr of_a) (inr of_b) = of_a.0 ∙ sym of_b.0

  empty : (ps : List TagPlace) → length ps ≤ 0 → ps ≡ []
  empty [] le = refl
  empty (x ∷ xs) le = absurd (omega (arith, le))

  first_is : IfSome (slice_get all 0) (λ place. place.index ≡ 0)
  first_is = elim (cases_lt 0 (length places)) [
    | inl less ↦ subst (λ o. IfSome o (λ (place : TagPlace). place.index ≡ 0)) (sym (get_front places p 0 less)) dir.first
    | inr none ↦ subst (λ o. IfSome o (λ (place : TagPlace). place.index ≡ 0)) (sym (get_at places p [] 0 (omega (arith, none)))) (first (empty places none))
  ]

  elsewhere : (h : Home) → has_home places h ≡ false → same_home h home ≡ false → new h ≡ old h
  elsewhere h none other = away h other ∙ by_link link
    where
      by_link : LinksLast places home old mid → mid h ≡ old h
      by_link (inl same) = ap (λ (ps : Pages). ps h) same.1
      by_link (inr l) = l.links.elsewhere h (apart_from (same_home h l.p.home) refl)
        where
          apart_from : (b : Bool) → same_home h l.p.home ≡ b → same_home h l.p.home ≡ false
          apart_from true same = absurd (both_ways (has_home places h) none (ap (has_home places) (homes_same h l.p.home same) ∙ listed places l.k l.p l.there))
          apart_from false other = other

  pub page_added : AddsPage p places old new
  page_added = record {
    directory = record { run = run; apart = distinct; first = first_is };
    entries = entries;
    elsewhere = elsewhere;
  }

-- ---- the last place

pub links_last : (places : List TagPlace) (o : Option Home) (next : Home) (old new : Pages) → IsLast places o → Leads o next old new → LinksLast places next old new
links_last places None next old new is leads = inl (is, leads)
links_last places (Some h) next old new is leads =
    inr (record { k = is.k; p = is.p; there = is.there; last = is.last; links = subst (λ x. LinksAt x next old new) (sym is.stands) leads })

-- the page of the last place
pub last_there : (pages : Pages) (places : List TagPlace) (o : Option Home) → IsDirectory pages places → IsLast places o → IfSome o (λ h. IsSomeAnd (pages h) IsTagPage)
last_there pages places None dir is = tt
last_there pages places (Some h) dir is =
    let page : IsSomeAnd (pages is.p.home) (IsPageOf is.p (home_behind places is.k)) = subst (λ o. IfSome o (λ (place : TagPlace). IsSomeAnd (pages place.home) (IsPageOf place (home_behind places is.k)))) is.there (dir.run is.k) in
    subst (λ x. IsSomeAnd (pages x) IsTagPage) is.stands (good (pages is.p.home) page)
  where
    good : (o : Option (List ℕ)) → IsSomeAnd o (IsPageOf is.p (home_behind places is.k)) → IsSomeAnd o IsTagPage
    good None x = x
    good (Some page) x = x.good
