-- Pages that are come to, if each of them is read.
use Rattle.std.proofs.Common.{◌≡◌, ◌∙◌, ◌⊎◌, inl, inr, ℕ, zero, suc, ◌+◌, ◌<◌, Bool, true, false, List, [], ◌∷◌, ◌++◌, length, Option, Some, None, Contains, IsSomeAnd, refl, sym, ap, subst, arith, ⊎_elim, length-append}
use Rattle.std.proofs.lemmas.Bool.{cases_lt, cases_order}
use Rattle.file_release.specs.domain_base.Limits.{log_pages}
use Rattle.file_release.specs.domain_base.declared.place.Home.{Home}
use Rattle.log_recovery.specs.disk_label.declared.anchor.Anchor.{Anchor}
use Rattle.log_recovery.specs.log_ring.Homes.{IsLogPage, IsMember, member_of}
use Rattle.file_release.specs.page_store.Pages.{Pages}
use Rattle.domain_layout.proofs.OnePage.{some_same}
use Rattle.domain_layout.specs.Reached.{Frame, IsRead, IsReserved, IsUnread, IsWithin, MayBe, Reaches, Way, begins, first_cells, goes_on}

-- ---- what cannot be wrong is right

within_by : (frame : Frame) (home : Home) → ¬ (¬ MayBe frame home) → IsWithin frame home
within_by frame home not_wrong = (
  record {
    first = ⊎_elim (λ low. absurd (not_wrong (λ may. omega (arith, low, may.0.0.first)))) (λ ok. ok) (cases_lt home.vol 1);
    last = ⊎_elim (λ high. absurd (not_wrong (λ may. omega (arith, high, may.0.0.last)))) (λ ok. ok) (cases_lt 8 home.vol);
    there = ⊎_elim (λ low. absurd (not_wrong (λ may. omega (arith, low, may.0.0.there)))) (λ ok. ok) (cases_lt (member_of frame.anchor home.vol).state 1);
    whole = ⊎_elim (λ high. absurd (not_wrong (λ may. omega (arith, high, may.0.0.whole)))) (λ ok. ok) (cases_lt 2 (member_of frame.anchor home.vol).state);
  },
  ⊎_elim (λ ok. ok) (λ far. absurd (not_wrong (λ may. omega (arith, far, may.0.1)))) (cases_lt home.page (member_of frame.anchor home.vol).pages),
)

pub may_be_by : (frame : Frame) (home : Home) → ¬ (¬ MayBe frame home) → MayBe frame home
may_be_by frame home not_wrong = (within_by frame home not_wrong, (λ reserved. not_wrong (λ may. may.1 reserved)))

pub record BeginsAt (pages : Pages) (way : Way) (home : Home) : Type 0 where
  pub page : List ℕ
  pub there : pages home ≡ Some page
  pub so : way.begins_so page ≡ true

pub begins_by : (pages : Pages) (way : Way) (home : Home) → ¬ (¬ IsSomeAnd (pages home) (λ page. way.begins_so page ≡ true)) → BeginsAt pages way home
begins_by pages way home not_wrong = by_page (pages home) refl not_wrong
  where
    by_test : (page : List ℕ) (b : Bool) → way.begins_so page ≡ b → pages home ≡ Some page → ¬ (¬ way.begins_so page ≡ true) → BeginsAt pages way home
    by_test page true so there not_wrong = record { page = page; there = there; so = so }
    by_test page false other there not_wrong = absurd (not_wrong (λ so. let e : false ≡ true = sym other ∙ so in absurd (cc)))

    by_page : (o : Option (List ℕ)) → pages home ≡ o → ¬ (¬ IsSomeAnd o (λ page. way.begins_so page ≡ true)) → BeginsAt pages way home
    by_page None none not_wrong = absurd (not_wrong (λ is. is))
    by_page (Some page) there not_wrong = by_test page (way.begins_so page) refl there not_wrong

-- ---- what is so or not

pub same_number : (m n : ℕ) → (m ≡ n) ⊎ ¬ m ≡ n
same_number m n = ⊎_elim (λ same. inl same) (λ apart. inr (λ same. ⊎_elim (λ less. omega (arith, less, same)) (λ more. omega (arith, more, same)) apart)) (cases_order m n)

pub member_or_none : (anchor : Anchor) (vol : ℕ) → IsMember anchor vol ⊎ ¬ IsMember anchor vol
member_or_none anchor vol =
    ⊎_elim (λ low. inr (λ is. omega (arith, low, is.first)))
    (λ first. ⊎_elim (λ last. ⊎_elim (λ none. inr (λ is. omega (arith, none, is.there)))
    (λ there. ⊎_elim (λ whole. inl (record { first = first; last = omega (arith, last); there = there; whole = omega (arith, whole) }))
    (λ more. inr (λ is. omega (arith, more, is.whole))) (cases_lt (member_of anchor vol).state 3)) (cases_lt (member_of anchor vol).state 1))
    (λ far. inr (λ is. omega (arith, far, is.last))) (cases_lt vol 9)) (cases_lt vol 1)

log_or_not : (anchor : Anchor) (home : Home) → IsLogPage anchor home ⊎ ¬ IsLogPage anchor home
log_or_not anchor home =
    ⊎_elim (λ vol.
    ⊎_elim (λ low. inr (λ is. omega (arith, low, is.1)))
    (λ first. ⊎_elim (λ last. inl (vol, first, last)) (λ far. inr (λ is. omega (arith, far, is.2))) (cases_lt home.page (anchor.log_page + log_pages))) (cases_lt home.page anchor.log_page))
    (λ other. inr (λ is. other is.0)) (same_number home.vol anchor.log_vol)

-- a page is one that tables and files may have, or none
pub reserved_or_not : (frame : Frame) (home : Home) → IsReserved frame home ⊎ ¬ IsReserved frame home
reserved_or_not frame home =
    ⊎_elim (λ low. inl (inl low))
    (λ behind. ⊎_elim (λ log. inl (inr log)) (λ off. inr (λ reserved. ⊎_elim (λ low. omega (arith, low, behind)) off reserved)) (log_or_not frame.anchor home)) (cases_lt home.page (first_cells frame home.vol))

pub within_or_not : (frame : Frame) (home : Home) → IsWithin frame home ⊎ ¬ IsWithin frame home
within_or_not frame home =
    ⊎_elim (λ member. ⊎_elim (λ within. inl (member, within)) (λ far. inr (λ is. omega (arith, far, is.1))) (cases_lt home.page (member_of frame.anchor home.vol).pages))
    (λ none. inr (λ is. none is.0)) (member_or_none frame.anchor home.vol)

pub may_or_not : (frame : Frame) (home : Home) → MayBe frame home ⊎ ¬ MayBe frame home
may_or_not frame home =
    ⊎_elim (λ within. ⊎_elim (λ reserved. inr (λ may. may.1 reserved)) (λ free. inl (within, free)) (reserved_or_not frame home)) (λ out. inr (λ may. out may.0)) (within_or_not frame home)

-- ---- lists

in_front : (passed : List Home) (home at : Home) → Contains passed at → Contains (passed ++ home ∷ []) at
in_front [] home at (k, within, is) = absurd (omega (arith, within))
in_front (x ∷ xs) home at (zero, within, is) = (zero, omega arith, is)
in_front (x ∷ xs) home at (suc k, within, is) = let more = in_front xs home at (k, omega (arith, within), is) in (suc more.0, omega (arith, more.1), more.2)

at_end : (passed : List Home) (home : Home) → Contains (passed ++ home ∷ []) home
at_end [] home = (0, omega arith, refl)
at_end (x ∷ xs) home = let more = at_end xs home in (suc more.0, omega (arith, more.1), more.2)

-- a page that is read after these
pub record ReadAfter (pages : Pages) (frame : Frame) (way : Way) (passed : List Home) (home : Home) : Type 0 where
  pub page : List ℕ
  pub may : MayBe frame home
  pub fresh : ¬ Contains passed home
  pub there : pages home ≡ Some page
  pub so : way.begins_so page ≡ true

module _ (pages : Pages) (frame : Frame) (way : Way) (none_unread : (home : Home) → ¬ IsUnread pages frame way home) where
  -- what is come to is read
  pub read_after : (passed : List Home) (home : Home) → Reaches pages frame way passed home → ReadAfter pages frame way passed home
  read_after passed home reached =
      let wrong : (w : ¬ MayBe frame home ⊎ Contains passed home ⊎ ¬ IsSomeAnd (pages home) (λ page. way.begins_so page ≡ true)) → ⊥ =
      λ w. none_unread home (record { passed = passed; reached = reached; wrong = w }) in
      let there = begins_by pages way home (λ none. wrong (inr (inr none))) in
      record {
        page = there.page;
        may = may_be_by frame home (λ none. wrong (inl none));
        fresh = λ twice. wrong (inr (inl twice));
        there = there.there;
        so = there.so;
      }

  pub is_read : (passed : List Home) (home : Home) (reached : Reaches pages frame way passed home) → (page : List ℕ) × IsRead pages frame way (length passed) home page
  is_read passed home reached =
      let after = read_after passed home reached in
      (after.page, record { passed = passed; reached = reached; may = after.may; fresh = after.fresh; there = after.there; begins = after.so; at = refl })

  -- the page that is come to after this number of others is one alone
  at_most : (passed : List Home) (home : Home) → Reaches pages frame way passed home → (other : List Home) (onto : Home) → Reaches pages frame way other onto → length passed ≡ length other → (passed ≡ other) × (home ≡ onto)
  at_most passed home reached = elim reached as (λ passed home reached. (other : List Home) (onto : Home) → Reaches pages frame way other onto → length passed ≡ length other → (passed ≡ other) × (home ≡ onto)) [
    | begins ↦ λ other onto also same. elim also as (λ other onto also. length {A = Home} [] ≡ length other → ([] ≡ other) × (way.first ≡ onto)) [
      | begins ↦ λ same. (refl, refl)
      | goes_on passed home onto page before may fresh there so leads ↦ λ same. absurd (omega (arith, same, length-append passed (home ∷ [])))
    ] same
    | goes_on passed home next page (before → earlier) may fresh there so leads ↦ λ other onto also same.
        elim also as (λ other onto also. length (passed ++ home ∷ []) ≡ length other → (passed ++ home ∷ [] ≡ other) × (next ≡ onto)) [
          | begins ↦ λ same. absurd (omega (arith, same, length-append passed (home ∷ [])))
          | goes_on passed' home' next' page' before' may' fresh' there' so' leads' ↦ λ same.
              let both = earlier passed' home' before' (omega (arith, same, length-append passed (home ∷ []), length-append passed' (home' ∷ []))) in
              let page_same : page ≡ page' = some_same page page' (sym there ∙ ap pages both.1 ∙ there') in
              ((λ i. both.0 i ++ both.1 i ∷ []), some_same next next' (sym leads ∙ (λ i. way.next (both.1 i) (page_same i)) ∙ leads'))
        ] same
  ]

  -- each that was passed was come to
  passed_before : (passed : List Home) (home : Home) → Reaches pages frame way passed home → (k : ℕ) → k < length passed → (before : List Home) × (at : Home) × Reaches pages frame way before at × (length before ≡ k) × Contains passed at
  passed_before passed home reached = elim reached as (λ passed home reached. (k : ℕ) → k < length passed → (before : List Home) × (at : Home) × Reaches pages frame way before at × (length before ≡ k) × Contains passed at) [
    | begins ↦ λ k within. absurd (omega (arith, within))
    | goes_on passed home next page (before → earlier) may fresh there so leads ↦ λ k within.
        ⊎_elim (λ low.
        let found = earlier k low in
        (found.0, found.1, found.2, found.3, in_front passed home found.1 found.4))
        (λ high. (passed, home, before, omega (arith, within, high, length-append passed (home ∷ [])), at_end passed home)) (cases_lt k (length passed))
  ]

  -- so no page is come to twice
  pub reached_once : (home : Home) (one other : List Home) → Reaches pages frame way one home → Reaches pages frame way other home → length one ≡ length other
  reached_once home one other reached also =
      ⊎_elim (λ same. same)
      (λ apart. ⊎_elim (λ less. absurd (shorter one other reached also less)) (λ more. absurd (shorter other one also reached more)) apart)
      (cases_order (length one) (length other))
    where
      shorter : (one other : List Home) → Reaches pages frame way one home → Reaches pages frame way other home → length one < length other → ⊥
      shorter one other reached also less =
          let found = passed_before other home also (length one) less in
          let same = at_most found.0 found.1 found.2 one home reached found.3 in
          none_unread home (record { passed = other; reached = also; wrong = inr (inl (subst (Contains other) same.1 found.4)) })
