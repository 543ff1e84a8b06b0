-- The pages of an index by their places: each is come to behind as many.
use Rattle.std.proofs.Common.{◌≡◌, ◌∙◌, ℕ, zero, suc, ◌+◌, ◌<◌, ◌≤◌, nat_le, Bool, true, false, cond, List, [], ◌∷◌, ◌++◌, length, Option, Some, None, slice_get, refl, sym, ap, subst, arith}
use Rattle.std.specs.Option.{option_and_then, option_map_or}
use Rattle.domain_memory.specs.domain_base.declared.place.Home.{Home}
use Rattle.domain_memory.specs.page_store.Pages.{Pages}
use Rattle.domain_memory.specs.log_ring.Homes.{IsMember, member_of}
use Rattle.domain_memory.specs.tag_dirs.TagPage.{next_of}
use Rattle.domain_memory.specs.index_pages.Homes.{next_at}
use Rattle.domain_memory.specs.domain_layout.DirectoryRules.{IsGoodIndexPage}
use Rattle.domain_memory.specs.domain_layout.Reached.{Frame, IsRead, IsUnread, Reaches, begins, goes_on, index_way, on_volume}
use Rattle.domain_memory.proofs.OfDomainLayout.OwnedOnce.{on_a_volume}
use Rattle.domain_memory.proofs.OfDomainLayout.Reached.{read_after}
use Rattle.domain_memory.proofs.OfFilesetsReading.Ways.{pushed}
use Rattle.domain_memory.proofs.OfDomainStanding.Indexes.{collect}
use Rattle.no_faults.proofs.Begun.{nowhere}

named_next : (o : Option Home) (onto : Home) → on_volume o ≡ Some onto → o ≡ Some onto
named_next None onto is = nowhere onto is
named_next (Some home) onto is = by_test (nat_le home.vol 8) is
  where
    by_test : (b : Bool) → cond b (Some home) None ≡ Some onto → Some home ≡ Some onto
    by_test true is = is
    by_test false is = nowhere onto is

module _ (pages : Pages) (frame : Frame) (small : (vol : ℕ) → IsMember frame.anchor vol → (member_of frame.anchor vol).pages ≤ 1048576) (first : Home)
    (none_unread : (home : Home) → ¬ IsUnread pages frame (index_way first) home)
    (good : (place : ℕ) (home : Home) (page : List ℕ) → IsRead pages frame (index_way first) place home page → IsGoodIndexPage page) where
  abbrev pub from : ℕ → Home → List Home
  from n home = collect pages frame small first none_unread good n home

  -- ---- a page that is come to stands in the list

  first_from : (n : ℕ) (home : Home) → 0 < n → slice_get (from n home) 0 ≡ Some home
  first_from zero home some = absurd (omega (arith, some))
  first_from (suc n) home some = refl

  next_from : (n : ℕ) (start home onto : Home) (k : ℕ) → slice_get (from n start) k ≡ Some home → suc k < n → next_at pages home ≡ Some onto → slice_get (from n start) (suc k) ≡ Some onto
  next_from zero start home onto k at less leads = nowhere home at
  next_from (suc n) start home onto zero at less leads =
      ap (λ o. slice_get (option_map_or (from n) o []) 0) (ap (next_at pages) (some_home start home at) ∙ leads) ∙ first_from n onto (omega (arith, less))
    where
      some_home : (a b : Home) → Some a ≡ Some b → a ≡ b
      some_home a b is = cc
  next_from (suc n) start home onto (suc k) at less leads = by_next (λ next at_next. next_from n next home onto k at_next (omega (arith, less)) leads) (next_at pages start) at
    where
      by_next : ((next : Home) → slice_get (from n next) k ≡ Some home → slice_get (from n next) (suc k) ≡ Some onto) → (o : Option Home) → slice_get (option_map_or (from n) o []) k ≡ Some home → slice_get (option_map_or (from n) o []) (suc k) ≡ Some onto
      by_next more None at_next = nowhere home at_next
      by_next more (Some next) at_next = more next at_next

  pub stands_in : (passed : List Home) (home : Home) → Reaches pages frame (index_way first) passed home → (n : ℕ) → length passed < n → slice_get (from n first) (length passed) ≡ Some home
  stands_in passed home reached = elim reached as (λ passed home reached. (n : ℕ) → length passed < n → slice_get (from n first) (length passed) ≡ Some home) [
    | begins ↦ λ n less. first_from n first less
    | goes_on passed home onto page (before → earlier) may fresh there so leads ↦ λ n less.
        let behind : length (passed ++ home ∷ []) ≡ suc (length passed) = pushed passed home in
        let next : next_at pages home ≡ Some onto = ap (option_and_then next_of) there ∙ named_next (next_of page) onto leads in
        subst (λ k. slice_get (from n first) k ≡ Some onto) (sym behind)
        (next_from n first home onto (length passed) (earlier n (omega (arith, less, behind))) (omega (arith, less, behind)) next)
  ]

  -- ---- and a page of the list is come to

  pub record ComesAt (count : ℕ) (home : Home) : Type 0 where
    pub passed : List Home
    pub reached : Reaches pages frame (index_way first) passed home
    pub behind : length passed ≡ count

  step : (passed : List Home) (home next : Home) → Reaches pages frame (index_way first) passed home → next_at pages home ≡ Some next → Reaches pages frame (index_way first) (passed ++ home ∷ []) next
  step passed home next reached leads =
      let read = read_after pages frame (index_way first) none_unread passed home reached in
      let is = good (length passed) home read.page (record { passed = passed; reached = reached; may = read.may; fresh = read.fresh; there = read.there; begins = read.so; at = refl }) in
      goes_on passed home next read.page reached read.may read.fresh read.there read.so (on_a_volume read.page next (sym (ap (option_and_then next_of) read.there) ∙ leads) is.1)

  comes_at : (n : ℕ) (passed : List Home) (start : Home) → Reaches pages frame (index_way first) passed start → (k : ℕ) (home : Home) → slice_get (from n start) k ≡ Some home → ComesAt (length passed + k) home
  comes_at zero passed start reached k home at = nowhere home at
  comes_at (suc n) passed start reached zero home at =
      record { passed = passed; reached = subst (Reaches pages frame (index_way first) passed) (some_home start home at) reached; behind = omega arith }
    where
      some_home : (a b : Home) → Some a ≡ Some b → a ≡ b
      some_home a b is = cc
  comes_at (suc n) passed start reached (suc k) home at =
      by_next (λ next leads at_next. comes_at n (passed ++ start ∷ []) next (step passed start next reached leads) k home at_next) (next_at pages start) refl at
    where
      by_next : ((next : Home) → next_at pages start ≡ Some next → slice_get (from n next) k ≡ Some home → ComesAt (length (passed ++ start ∷ []) + k) home) → (o : Option Home) → next_at pages start ≡ o → slice_get (option_map_or (from n) o []) k ≡ Some home → ComesAt (length passed + suc k) home
      by_next more None ends at_next = nowhere home at_next
      by_next more (Some next) leads at_next =
          let come = more next leads at_next in
          record { passed = come.passed; reached = come.reached; behind = omega (arith, come.behind, pushed passed start) }

  pub from_first : (n k : ℕ) (home : Home) → slice_get (from n first) k ≡ Some home → ComesAt k home
  from_first n k home at =
      let come = comes_at n [] first begins k home at in
      record { passed = come.passed; reached = come.reached; behind = omega (arith, come.behind) }
