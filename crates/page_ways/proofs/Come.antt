-- Which pages are come to: the way is one, so that a page is known by how many stand in front.
use Rattle.std.proofs.Common.{◌≡◌, ◌∙◌, ◌⊎◌, ℕ, zero, suc, ◌+◌, ◌<◌, ◌≤◌, true, List, [], ◌∷◌, ◌++◌, length, Option, Some, None, Contains, IsSomeAnd, refl, sym, ap, subst, arith, ⊎_elim, length-append, slice_get}
use Rattle.std.proofs.lemmas.Bool.{cases_lt}
use Rattle.std.proofs.lemmas.Option.{slice_get_within}
use Rattle.domain_layout.specs.domain_base.declared.place.Home.{Home}
use Rattle.domain_layout.specs.page_store.Pages.{Pages}
use Rattle.domain_layout.specs.Reached.{Frame, IsRead, IsUnread, MayBe, Reaches, Way, begins, goes_on}
use Rattle.page_ways.specs.Walk.{AreRead, EndsThere, IsOnWay, IsReadable, StopsAt}

some_same : {X : Type 0} (a b : X) → Some a ≡ Some b → a ≡ b
some_same a b e = cc

-- ---- places of a list with one more after it

get_before : (done rest : List Home) (k : ℕ) (q : Home) → slice_get done k ≡ Some q → slice_get (done ++ rest) k ≡ Some q
get_before [] rest k q is = let e : None ≡ Some q = is in absurd (cc)
get_before (x ∷ xs) rest zero q is = is
get_before (x ∷ xs) rest (suc k) q is = get_before xs rest k q is

get_end : (done : List Home) (x : Home) → slice_get (done ++ x ∷ []) (length done) ≡ Some x
get_end [] x = refl
get_end (y ∷ ys) x = get_end ys x

module _ (pages : Pages) (frame : Frame) (way : Way) where
  -- the page that is come to after this number of others is one alone
  come_once : (passed : List Home) (home : Home) → Reaches pages frame way passed home → (other : List Home) (onto : Home) → Reaches pages frame way other onto → length passed ≡ length other → (passed ≡ other) × (home ≡ onto)
  come_once passed home reached = elim reached as (λ passed home reached. (other : List Home) (onto : Home) → Reaches pages frame way other onto → length passed ≡ length other → (passed ≡ other) × (home ≡ onto)) [
    | begins ↦ λ other onto also same. elim also as (λ other onto also. length {A = Home} [] ≡ length other → ([] ≡ other) × (way.first ≡ onto)) [
      | begins ↦ λ same. (refl, refl)
      | goes_on passed home onto page before may fresh there so leads ↦ λ same. absurd (omega (arith, same, length-append passed (home ∷ [])))
    ] same
    | goes_on passed home next page (before → earlier) may fresh there so leads ↦ λ other onto also same.
        elim also as (λ other onto also. length (passed ++ home ∷ []) ≡ length other → (passed ++ home ∷ [] ≡ other) × (next ≡ onto)) [
          | begins ↦ λ same. absurd (omega (arith, same, length-append passed (home ∷ [])))
          | goes_on passed' home' next' page' before' may' fresh' there' so' leads' ↦ λ same.
              let both = earlier passed' home' before' (omega (arith, same, length-append passed (home ∷ []), length-append passed' (home' ∷ []))) in
              let page_same : page ≡ page' = some_same page page' (sym there ∙ ap pages both.1 ∙ there') in
              ((λ i. both.0 i ++ both.1 i ∷ []), some_same next next' (sym leads ∙ (λ i. way.next (both.1 i) (page_same i)) ∙ leads'))
        ] same
  ]

  -- the page after this number of others in a list is one that is read
  record ReadAt (homes : List Home) (k : ℕ) : Type 0 where
    before : List Home
    at : Home
    page : List ℕ
    reached : Reaches pages frame way before at
    behind : length before ≡ k
    readable : IsReadable pages frame way before at page
    listed : slice_get homes k ≡ Some at

  record LedOn (homes : List Home) (k : ℕ) : Type 0 where
    read : ReadAt homes k
    onto : Home
    leads : way.next read.at read.page ≡ Some onto

  -- each that was passed was read, and led on
  led_on : (passed : List Home) (home : Home) → Reaches pages frame way passed home → (k : ℕ) → k < length passed → LedOn passed k
  led_on passed home reached = elim reached as (λ passed home reached. (k : ℕ) → k < length passed → LedOn passed k) [
    | begins ↦ λ k within. absurd (omega (arith, within))
    | goes_on passed home next page (before → earlier) may fresh there so leads ↦ λ k within.
        ⊎_elim (λ low.
        let found = earlier k low in
        record {
          read = record {
            before = found.read.before;
            at = found.read.at;
            page = found.read.page;
            reached = found.read.reached;
            behind = found.read.behind;
            readable = found.read.readable;
            listed = get_before passed (home ∷ []) k found.read.at found.read.listed;
          };
          onto = found.onto;
          leads = found.leads;
        })
        (λ high.
        let here : length passed ≡ k = omega (arith, within, high, length-append passed (home ∷ [])) in
        record {
          read = record {
            before = passed;
            at = home;
            page = page;
            reached = before;
            behind = here;
            readable = record { may = may; fresh = fresh; there = there; begins = so };
            listed = subst (λ n. slice_get (passed ++ home ∷ []) n ≡ Some home) here (get_end passed home);
          };
          onto = next;
          leads = leads;
        })
        (cases_lt k (length passed))
  ]

  abbrev IsWrong : List Home → Home → Type 0
  IsWrong homes home = ¬ MayBe frame home ⊎ Contains homes home ⊎ ¬ IsSomeAnd (pages home) (λ page. way.begins_so page ≡ true)

  not_wrong : (homes : List Home) (home : Home) (page : List ℕ) → IsReadable pages frame way homes home page → IsWrong homes home → ⊥
  not_wrong homes home page is wrong =
      ⊎_elim (λ none. none is.may)
      (λ rest. ⊎_elim (λ twice. is.fresh twice)
      (λ not. not (subst (λ o. IsSomeAnd o (λ page. way.begins_so page ≡ true)) (sym is.there) is.begins)) rest) wrong

  moved : (one other : List Home) (home onto : Home) (page : List ℕ) → one ≡ other → home ≡ onto → IsReadable pages frame way one home page → IsReadable pages frame way other onto page
  moved one other home onto page same at is =
      subst (λ l. IsReadable pages frame way l onto page) same (subst (λ h. IsReadable pages frame way one h page) at is)

  -- what is known once no page more is read
  record Known (homes : List Home) (unread : Option Home) : Type 0 where
    read_at : (k : ℕ) → k < length homes → ReadAt homes k
    beyond : (passed : List Home) (home : Home) → Reaches pages frame way passed home → length homes ≤ length passed → (length passed ≡ length homes) × (unread ≡ Some home)
    stops : (home : Home) → unread ≡ Some home → StopsAt pages frame way homes home

  known_wrong : (homes : List Home) (wrong : Home) → StopsAt pages frame way homes wrong → Known homes (Some wrong)
  known_wrong homes wrong at = record {
    read_at = λ k within. (led_on homes wrong at.reached k within).read;
    beyond = beyond;
    stops = λ home is. subst (StopsAt pages frame way homes) (some_same wrong home is) at;
  }
    where
      further : (passed : List Home) (home : Home) → Reaches pages frame way passed home → length homes < length passed → ⊥
      further passed home reached less =
          let led = led_on passed home reached (length homes) less in
          let once = come_once led.read.before led.read.at led.read.reached homes wrong at.reached led.read.behind in
          not_wrong homes wrong led.read.page (moved led.read.before homes led.read.at wrong led.read.page once.0 once.1 led.read.readable) at.wrong

      beyond : (passed : List Home) (home : Home) → Reaches pages frame way passed home → length homes ≤ length passed → (length passed ≡ length homes) × (Some wrong ≡ Some home)
      beyond passed home reached least =
          ⊎_elim (λ less. absurd (further passed home reached less))
          (λ most.
          let same : length passed ≡ length homes = omega (arith, least, most) in
          (same, ap (λ h. Some h) (sym (come_once passed home reached homes wrong at.reached same).1)))
          (cases_lt (length homes) (length passed))

  known_ends : (homes : List Home) → EndsThere pages frame way homes → Known homes None
  known_ends homes at = record {
    read_at = read_at;
    beyond = λ passed home reached least. absurd (none passed home reached least);
    stops = λ home is. let e : None ≡ Some home = is in absurd (cc);
  }
    where
      longer : length homes ≡ length at.passed + 1
      longer = omega (arith, ap length at.are, length-append at.passed (at.last ∷ []))

      none : (passed : List Home) (home : Home) → Reaches pages frame way passed home → length homes ≤ length passed → ⊥
      none passed home reached least =
          let led = led_on passed home reached (length at.passed) (omega (arith, least, longer)) in
          let once = come_once led.read.before led.read.at led.read.reached at.passed at.last at.reached led.read.behind in
          let page_same : led.read.page ≡ at.page = some_same led.read.page at.page (sym led.read.readable.there ∙ ap pages once.1 ∙ at.readable.there) in
          let next : Some led.onto ≡ None = sym led.leads ∙ (λ i. way.next (once.1 i) (page_same i)) ∙ at.ends in
          absurd (cc)

      read_at : (k : ℕ) → k < length homes → ReadAt homes k
      read_at k within =
          ⊎_elim (λ low.
          let found = (led_on at.passed at.last at.reached k low).read in
          record {
            before = found.before;
            at = found.at;
            page = found.page;
            reached = found.reached;
            behind = found.behind;
            readable = found.readable;
            listed = subst (λ l. slice_get l k ≡ Some found.at) (sym at.are) (get_before at.passed (at.last ∷ []) k found.at found.listed);
          })
          (λ high.
          let here : length at.passed ≡ k = omega (arith, within, high, longer) in
          record {
            before = at.passed;
            at = at.last;
            page = at.page;
            reached = at.reached;
            behind = here;
            readable = at.readable;
            listed = subst (λ l. slice_get l k ≡ Some at.last) (sym at.are) (subst (λ n. slice_get (at.passed ++ at.last ∷ []) n ≡ Some at.last) here (get_end at.passed at.last));
          })
          (cases_lt k (length at.passed))

  known_are_read : (homes : List Home) (unread : Option Home) → Known homes unread → AreRead pages frame way homes unread
  known_are_read homes unread known = record { each = λ place home. (listed_read place home, read_listed place home); wrong = λ home. (wrong_unread home, unread_wrong home) }
    where
      listed_read : (place : ℕ) (home : Home) → slice_get homes place ≡ Some home → (page : List ℕ) × IsRead pages frame way place home page
      listed_read place home is =
          let found = known.read_at place (slice_get_within homes place home is) in
          let same : found.at ≡ home = some_same found.at home (sym found.listed ∙ is) in
          let readable = moved found.before found.before found.at home found.page refl same found.readable in (
            found.page,
            record {
              passed = found.before;
              reached = subst (Reaches pages frame way found.before) same found.reached;
              may = readable.may;
              fresh = readable.fresh;
              there = readable.there;
              begins = readable.begins;
              at = found.behind;
            },
          )

      read_listed : (place : ℕ) (home : Home) → ((page : List ℕ) × IsRead pages frame way place home page) → slice_get homes place ≡ Some home
      read_listed place home (page, is) =
          ⊎_elim (λ low.
          let found = known.read_at place low in
          let once = come_once found.before found.at found.reached is.passed home is.reached (found.behind ∙ sym is.at) in
          found.listed ∙ ap (λ h. Some h) once.1)
          (λ high.
          let far = known.beyond is.passed home is.reached (omega (arith, high, is.at)) in
          let at = known.stops home far.1 in
          let once = come_once is.passed home is.reached homes home at.reached far.0 in
          let readable : IsReadable pages frame way is.passed home page = record { may = is.may; fresh = is.fresh; there = is.there; begins = is.begins } in
          absurd (not_wrong homes home page (moved is.passed homes home home page once.0 refl readable) at.wrong))
          (cases_lt place (length homes))

      wrong_unread : (home : Home) → unread ≡ Some home → IsUnread pages frame way home
      wrong_unread home is =
          let at = known.stops home is in
          record { passed = homes; reached = at.reached; wrong = at.wrong }

      unread_wrong : (home : Home) → IsUnread pages frame way home → unread ≡ Some home
      unread_wrong home is =
          ⊎_elim (λ low.
          let found = known.read_at (length is.passed) low in
          let once = come_once found.before found.at found.reached is.passed home is.reached found.behind in
          absurd (not_wrong is.passed home found.page (moved found.before is.passed found.at home found.page once.0 once.1 found.readable) is.wrong))
          (λ high. (known.beyond is.passed home is.reached high).1)
          (cases_lt (length is.passed) (length homes))

  -- ---- step by step

  pub on_way_first : IsOnWay pages frame way [] None (Some way.first)
  on_way_first = (refl, begins)

  pub on_way_next : (homes : List Home) (unread : Option Home) (home : Home) (page : List ℕ) → IsOnWay pages frame way homes unread (Some home) → IsReadable pages frame way homes home page
      → IsOnWay pages frame way (homes ++ home ∷ []) unread (way.next home page)
  on_way_next homes unread home page on is = subst (λ u. IsOnWay pages frame way (homes ++ home ∷ []) u (way.next home page)) (sym on.0) (by_next (way.next home page) refl)
    where
      by_next : (next : Option Home) → way.next home page ≡ next → IsOnWay pages frame way (homes ++ home ∷ []) None next
      by_next (Some onto) leads = (refl, goes_on homes home onto page on.1 is.may is.fresh is.there is.begins leads)
      by_next None ends = record { passed = homes; last = home; page = page; are = refl; reached = on.1; readable = is; ends = ends }

  pub on_way_wrong : (homes : List Home) (unread : Option Home) (home : Home) → IsOnWay pages frame way homes unread (Some home) → IsWrong homes home → IsOnWay pages frame way homes (Some home) None
  on_way_wrong homes unread home on wrong = record { reached = on.1; wrong = wrong }

  pub on_way_end : (homes : List Home) (unread : Option Home) → IsOnWay pages frame way homes unread None → AreRead pages frame way homes unread
  on_way_end homes None on = known_are_read homes None (known_ends homes on)
  on_way_end homes (Some home) on = known_are_read homes (Some home) (known_wrong homes home on)
