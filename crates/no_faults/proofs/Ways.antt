-- Pages of which each leads to the next one, stands where it may, and is there once: all are read, and no other is come to.
use Rattle.std.proofs.Common.{◌≡◌, ◌∙◌, ℕ, zero, suc, true, List, [], ◌∷◌, ◌++◌, length, map, Some, None, Contains, IsSomeAnd, slice_get, refl, sym, ap, subst, arith, ⊎_elim}
use Rattle.domain_memory.specs.domain_base.declared.place.Home.{Home}
use Rattle.domain_memory.specs.page_store.Pages.{Pages}
use Rattle.domain_memory.specs.domain_layout.Reached.{Frame, IsRead, IsUnread, MayBe, Reaches, Way, begins, goes_on}
use Rattle.domain_memory.proofs.OfDomainLayout.OnePage.{some_same}
use Rattle.domain_memory.proofs.OfFilesetsReading.Ways.{get_pushed, pushed, within_of}

-- ---- lists

pub nothing : {P X : Type 0} (x : X) → None ≡ Some x → P
nothing x is = absurd (cc)

pub at_of : {X : Type 0} (xs : List X) (x : X) → Contains xs x → (k : ℕ) × (slice_get xs k ≡ Some x)
at_of [] x (k, within, is) = absurd (omega (arith, within))
at_of (y ∷ ys) x (zero, within, is) = (0, ap Some is)
at_of (y ∷ ys) x (suc k, within, is) = let more = at_of ys x (k, omega (arith, within), is) in (suc more.0, more.1)

pub contains_of : {X : Type 0} (xs : List X) (k : ℕ) (x : X) → slice_get xs k ≡ Some x → Contains xs x
contains_of [] k x is = nothing x is
contains_of (y ∷ ys) zero x is = (0, omega arith, some_same y x is)
contains_of (y ∷ ys) (suc k) x is = let more = contains_of ys k x is in (suc more.0, omega (arith, more.1), more.2)

pub before_of : {X : Type 0} (xs : List X) (k : ℕ) (x : X) → slice_get xs (suc k) ≡ Some x → (y : X) × (slice_get xs k ≡ Some y)
before_of [] k x is = nothing x is
before_of (y ∷ ys) zero x is = (y, refl)
before_of (y ∷ ys) (suc k) x is = before_of ys k x is

pub map_at : {X Y : Type 0} (f : X → Y) (xs : List X) (k : ℕ) (y : Y) → slice_get (map f xs) k ≡ Some y → (x : X) × (slice_get xs k ≡ Some x) × (f x ≡ y)
map_at f [] k y is = nothing y is
map_at f (x ∷ xs) zero y is = (x, refl, some_same (f x) y is)
map_at f (x ∷ xs) (suc k) y is = map_at f xs k y is

-- ---- pages on a way

-- the page of a way at a place among these homes
pub record IsOnWay (pages : Pages) (frame : Frame) (way : Way) (homes : List Home) (k : ℕ) (home : Home) : Type 0 where
  pub page : List ℕ
  pub there : pages home ≡ Some page
  pub so : way.begins_so page ≡ true
  pub next : way.next home page ≡ slice_get homes (suc k)
  pub may : MayBe frame home

-- these are the homes of all its pages, each once
pub record AreWay (pages : Pages) (frame : Frame) (way : Way) (homes : List Home) : Type 0 where
  pub first : slice_get homes 0 ≡ Some way.first
  pub each : (k : ℕ) (home : Home) → slice_get homes k ≡ Some home → IsOnWay pages frame way homes k home
  pub once : (j k : ℕ) (home : Home) → slice_get homes j ≡ Some home → slice_get homes k ≡ Some home → j ≡ k

-- what is come to is the next of them, behind those in front of it
pub record Comes (homes passed : List Home) (home : Home) : Type 0 where
  pub there : slice_get homes (length passed) ≡ Some home
  pub front : (j : ℕ) (h : Home) → slice_get passed j ≡ Some h → slice_get homes j ≡ Some h

pub comes_by : (pages : Pages) (frame : Frame) (way : Way) (homes : List Home) → slice_get homes 0 ≡ Some way.first
    → ((k : ℕ) (home : Home) (page : List ℕ) → slice_get homes k ≡ Some home → pages home ≡ Some page → way.next home page ≡ slice_get homes (suc k))
    → (passed : List Home) (home : Home) → Reaches pages frame way passed home → Comes homes passed home
comes_by pages frame way homes first leads passed home reached = elim reached as (λ passed home reached. Comes homes passed home) [
  | begins ↦ record { there = first; front = λ j h is. nothing h is }
  | goes_on passed home onto page (before → earlier) may fresh there so to ↦ record {
    there = ap (slice_get homes) (pushed passed home) ∙ sym (leads (length passed) home page earlier.there there) ∙ to;
    front = λ j h is. ⊎_elim (λ low. earlier.front j h low.1) (λ last. ap (slice_get homes) last.0 ∙ earlier.there ∙ ap Some last.1) (get_pushed passed home j h is);
  }
]

-- one of them is come to behind so many
pub record ReachedAt (pages : Pages) (frame : Frame) (way : Way) (k : ℕ) (home : Home) : Type 0 where
  pub passed : List Home
  pub reached : Reaches pages frame way passed home
  pub behind : length passed ≡ k

module _ (pages : Pages) (frame : Frame) (way : Way) (homes : List Home) (are : AreWay pages frame way homes) where
  leads : (k : ℕ) (home : Home) (page : List ℕ) → slice_get homes k ≡ Some home → pages home ≡ Some page → way.next home page ≡ slice_get homes (suc k)
  leads k home page at there =
      let on = are.each k home at in
      ap (way.next home) (some_same page on.page (sym there ∙ on.there)) ∙ on.next

  pub comes : (passed : List Home) (home : Home) → Reaches pages frame way passed home → Comes homes passed home
  comes passed home reached = comes_by pages frame way homes are.first leads passed home reached

  pub fresh : (passed : List Home) (home : Home) → Reaches pages frame way passed home → ¬ Contains passed home
  fresh passed home reached twice =
      let so = comes passed home reached in
      let at = at_of passed home twice in
      let less = within_of passed at.0 home at.1 in
      let same = are.once at.0 (length passed) home (so.front at.0 home at.1) so.there in
      omega (arith, less, same)

  pub reach : (k : ℕ) (home : Home) → slice_get homes k ≡ Some home → ReachedAt pages frame way k home
  reach zero home at = record { passed = []; reached = subst (Reaches pages frame way []) (some_same way.first home (sym are.first ∙ at)) begins; behind = refl }
  reach (suc k) home at =
      let front = before_of homes k home at in
      let earlier = reach k front.0 front.1 in
      let on = are.each k front.0 front.1 in
      record {
        passed = earlier.passed ++ front.0 ∷ [];
        reached = goes_on earlier.passed front.0 home on.page earlier.reached on.may (fresh earlier.passed front.0 earlier.reached) on.there on.so (on.next ∙ at);
        behind = pushed earlier.passed front.0 ∙ ap suc earlier.behind;
      }

  pub none_unread : (home : Home) → ¬ IsUnread pages frame way home
  none_unread home unread =
      let so = comes unread.passed home unread.reached in
      let on = are.each (length unread.passed) home so.there in
      ⊎_elim (λ out. out on.may) (λ more. ⊎_elim (fresh unread.passed home unread.reached)
      (λ none. none (subst (λ o. IsSomeAnd o (λ page. way.begins_so page ≡ true)) (sym on.there) on.so)) more) unread.wrong

  -- where a page that is read stands among them
  pub read_at : (place : ℕ) (home : Home) (page : List ℕ) → IsRead pages frame way place home page → slice_get homes place ≡ Some home
  read_at place home page read = ap (slice_get homes) (sym read.at) ∙ (comes read.passed home read.reached).there

  -- and each of them is read
  pub is_read : (k : ℕ) (home : Home) (page : List ℕ) → slice_get homes k ≡ Some home → pages home ≡ Some page → IsRead pages frame way k home page
  is_read k home page at there =
      let r = reach k home at in
      let on = are.each k home at in
      record {
        passed = r.passed;
        reached = r.reached;
        may = on.may;
        fresh = fresh r.passed home r.reached;
        there = there;
        begins = subst (λ p. way.begins_so p ≡ true) (some_same on.page page (sym on.there ∙ there)) on.so;
        at = r.behind;
      }
