-- Where no rule is broken, the indexes of directories stand on pages of their own.
use Rattle.std.proofs.Common.{◌≡◌, ◌∙◌, ◌⊎◌, inl, inr, ℕ, zero, suc, ◌+◌, ◌*◌, ◌^◌, ◌<◌, ◌≤◌, Bool, true, false, eqb, ◌||◌, List, [], ◌∷◌, ◌++◌, length, map, Option, Some, None, IfSome, IsSomeAnd, Contains, refl, sym, ap, subst, arith, ⊎_elim}
use Rattle.std.proofs.lemmas.Bool.{cases_Bool, cases_lt, eqb-true}
use Rattle.std.proofs.lemmas.Map.Steps.{length-le_from_distinct_below}
use Rattle.std.specs.List.{AllByRecursion, IsDistinct, list_any}
use Rattle.std.specs.Option.{option_and_then, option_map_or}
use Rattle.std.specs.Prelude.{slice_index_or}
use Rattle.fileset_shapes.specs.domain_base.declared.place.CellAt.{CellAt}
use Rattle.fileset_shapes.specs.domain_base.declared.place.Home.{Home}
use Rattle.fileset_shapes.specs.page_store.Pages.{Pages}
use Rattle.fileset_shapes.specs.cell_records.Fields.{number_at}
use Rattle.fileset_shapes.specs.log_ring.Homes.{IsMember, member_of}
use Rattle.fileset_shapes.specs.tag_dirs.TagPage.{next_of}
use Rattle.stored_set.specs.index_pages.Homes.{AreIndexHomes, HasIndexPageAt, IsIndexPage, next_at}
use Rattle.fileset_shapes.specs.domain_layout.DirectoryRules.{IsGoodIndexPage}
use Rattle.fileset_shapes.specs.domain_layout.Reached.{Frame, IsRead, IsUnread, MayBe, Reaches, begins, goes_on, index_way, on_volume}
use Rattle.fileset_shapes.proofs.OfDomainLayout.OnePage.{some_same}
use Rattle.fileset_shapes.proofs.OfDomainLayout.OwnedOnce.{on_a_volume}
use Rattle.fileset_shapes.proofs.OfDomainLayout.Reached.{ReadAfter, read_after}
use Rattle.fileset_shapes.proofs.OfFilesetsReading.Ways.{pushed}

-- ---- homes as numbers

abbrev pub key : Home → ℕ
key home = home.vol * 1048576 + home.page

abbrev pub Small : Home → Type 0
Small home = (home.vol ≤ 8) × (home.page < 1048576)

one_home : (a b : Home) → Small a → Small b → key a ≡ key b → a ≡ b
one_home a b small also same =
    let vol : a.vol ≡ b.vol = omega (arith, same, small.1, also.1) in
    let page : a.page ≡ b.page = omega (arith, same, vol) in
    (λ i. record { vol = vol i; page = page i })

-- ---- homes that were passed are not so many

all_pushed : (P : ℕ → Type 0) (xs : List Home) (x : Home) → AllByRecursion P (map key xs) → P (key x) → AllByRecursion P (map key (xs ++ x ∷ []))
all_pushed P [] x all is = (is, tt)
all_pushed P (y ∷ ys) x all is = (all.0, all_pushed P ys x all.1 is)

small_pushed : (xs : List Home) (x : Home) → AllByRecursion Small xs → Small x → AllByRecursion Small (xs ++ x ∷ [])
small_pushed [] x all is = (is, tt)
small_pushed (y ∷ ys) x all is = (all.0, small_pushed ys x all.1 is)

distinct_pushed : (xs : List Home) (x : Home) → AllByRecursion Small xs → Small x → IsDistinct eqb (map key xs) → ¬ Contains xs x → IsDistinct eqb (map key (xs ++ x ∷ []))
unfolding IsDistinct
distinct_pushed [] x all small once fresh = (tt, tt)
distinct_pushed (y ∷ ys) x all small once fresh = (
  all_pushed (λ z. eqb (key y) z ≡ false) ys x once.0
      (⊎_elim (λ same. absurd (fresh (0, omega arith, one_home y x all.0 small (eqb-true (key y) (key x) same)))) (λ other. other) (cases_Bool (eqb (key y) (key x)))),
  distinct_pushed ys x all.1 small once.1 (λ among. fresh (suc among.0, omega (arith, among.1), among.2)),
)

below : (xs : List Home) → AllByRecursion Small xs → (q : ℕ) → list_any (eqb q) (map key xs) ≡ true → q < 9437184
below [] all q is = absurd (cc)
below (x ∷ xs) all q is =
    ⊎_elim (λ same. let here : q ≡ key x = eqb-true q (key x) same in omega (arith, here, all.0.0, all.0.1))
    (λ other. below xs all.1 q (later other)) (cases_Bool (eqb q (key x)))
  where
    later : eqb q (key x) ≡ false → list_any (eqb q) (map key xs) ≡ true
    later other = sym (ap (λ b. b || list_any (eqb q) (map key xs)) other) ∙ is

length_keys : (xs : List Home) → length (map key xs) ≡ length xs
length_keys [] = refl
length_keys (x ∷ xs) = ap suc (length_keys xs)

module _ (pages : Pages) (frame : Frame) (small : (vol : ℕ) → IsMember frame.anchor vol → (member_of frame.anchor vol).pages ≤ 1048576) (first : Home)
    (none_unread : (home : Home) → ¬ IsUnread pages frame (index_way first) home)
    (good : (place : ℕ) (home : Home) (page : List ℕ) → IsRead pages frame (index_way first) place home page → IsGoodIndexPage page) where
  small_home : (home : Home) → MayBe frame home → Small home
  small_home home may = (may.0.0.last, omega (arith, may.0.1, small home.vol may.0.0))

  record Passed (passed : List Home) : Type 0 where
    all : AllByRecursion Small passed
    once : IsDistinct eqb (map key passed)

  passed_so : (passed : List Home) (home : Home) → Reaches pages frame (index_way first) passed home → Passed passed
  unfolding IsDistinct
  passed_so passed home reached = elim reached as (λ passed home reached. Passed passed) [
    | begins ↦ record { all = tt; once = tt }
    | goes_on passed home onto page (before → earlier) may fresh there so leads ↦ record {
      all = small_pushed passed home earlier.all (small_home home may);
      once = distinct_pushed passed home earlier.all (small_home home may) earlier.once fresh;
    }
  ]

  pub few : (passed : List Home) (home : Home) → Reaches pages frame (index_way first) passed home → length passed ≤ 9437184
  few passed home reached =
      let so = passed_so passed home reached in
      let short = length-le_from_distinct_below (map key passed) 9437184 so.once (below passed so.all) in
      omega (arith, short, length_keys passed)

  -- ---- one page after the other

  abbrev pub collect : ℕ → Home → List Home
  collect zero home = []
  collect (suc n) home = home ∷ option_map_or (collect n) (next_at pages home) []

  after : (passed : List Home) (home : Home) → Reaches pages frame (index_way first) passed home → ReadAfter pages frame (index_way first) passed home
  after = read_after pages frame (index_way first) none_unread

  -- a page of the index, and what it leads to
  record OnWay (passed : List Home) (home : Home) : Type 0 where
    good_page : HasIndexPageAt pages home
    on : (next : Home) → next_at pages home ≡ Some next → Reaches pages frame (index_way first) (passed ++ home ∷ []) next

  on_way : (passed : List Home) (home : Home) → Reaches pages frame (index_way first) passed home → OnWay passed home
  on_way passed home reached =
      let read = after passed home reached in
      let is = good (length passed) home read.page (record { passed = passed; reached = reached; may = read.may; fresh = read.fresh; there = read.there; begins = read.so; at = refl }) in
      record {
        good_page = subst (λ o. IsSomeAnd o IsIndexPage) (sym read.there) (record { whole = is.0.whole; next = is.1 });
        on = λ next leads. goes_on passed home next read.page reached read.may read.fresh read.there read.so
            (on_a_volume read.page next (sym (ap (option_and_then next_of) read.there) ∙ leads) is.1);
      }

  pub are_homes : (n : ℕ) (passed : List Home) (home : Home) → Reaches pages frame (index_way first) passed home → 9437184 < n + length passed → AreIndexHomes pages (Some home) (collect n home)
  are_homes zero passed home reached enough = let short = few passed home reached in absurd (omega (arith, short, enough))
  are_homes (suc n) passed home reached enough =
      let way = on_way passed home reached in (
        refl,
        way.good_page,
        by_next (λ next leads. are_homes n (passed ++ home ∷ []) next (way.on next leads) (omega (arith, enough, pushed passed home))) (next_at pages home) refl,
      )
    where
      by_next : ((next : Home) → next_at pages home ≡ Some next → AreIndexHomes pages (Some next) (collect n next)) → (o : Option Home) → next_at pages home ≡ o → AreIndexHomes pages o (option_map_or (collect n) o [])
      by_next more None ends = tt
      by_next more (Some next) leads = more next leads

  -- each of them is come to
  pub record IsComeTo (home : Home) : Type 0 where
    pub passed : List Home
    pub reached : Reaches pages frame (index_way first) passed home
    pub may : MayBe frame home

  pub come_to : (n : ℕ) (passed : List Home) (home : Home) → Reaches pages frame (index_way first) passed home → (x : Home) → Contains (collect n home) x → IsComeTo x
  come_to zero passed home reached x (k, within, is) = absurd (omega (arith, within))
  come_to (suc n) passed home reached x (zero, within, is) =
      record { passed = passed; reached = subst (Reaches pages frame (index_way first) passed) is reached; may = subst (MayBe frame) is (after passed home reached).may }
  come_to (suc n) passed home reached x (suc k, within, is) =
      by_next (λ next leads among. come_to n (passed ++ home ∷ []) next ((on_way passed home reached).on next leads) x among) (next_at pages home) refl (k, omega (arith, within), is)
    where
      by_next : ((next : Home) → next_at pages home ≡ Some next → Contains (collect n next) x → IsComeTo x) → (o : Option Home) → next_at pages home ≡ o → Contains (option_map_or (collect n) o []) x → IsComeTo x
      by_next more None ends among = absurd (omega (arith, among.1))
      by_next more (Some next) leads among = more next leads among
