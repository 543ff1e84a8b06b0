-- An index that has another page in place of one, a page more, or one less.
use Rattle.std.proofs.Common.{◌≡◌, ◌∙◌, ℕ, zero, suc, ◌+◌, ◌<◌, ◌≤◌, Bool, true, false, cond, Option, Some, None, IsSome, IsSomeAnd, IfSome, is_some, List, [], ◌∷◌, ◌++◌, drop, get_or, length, slice_get, take, refl, sym, ap, subst, arith, unwrap_or}
use Rattle.std.specs.List.{insert}
use Rattle.std.specs.Prelude.{Contains}
use Rattle.std.specs.Option.{option_and_then}
use Rattle.std.proofs.lemmas.Option.{none-some, slice_get-get_or, slice_get_within, get_or_from_slice_get}
use Rattle.file_release.specs.domain_base.declared.place.Home.{Home}
use Rattle.file_release.specs.page_store.Bitfiles.{shown_index, with_entry}
use Rattle.file_release.specs.page_store.Pages.{Pages, same_home, with_page, without_page}
use Rattle.file_release.proofs.OfMetadataCells.Changed.{homes_same, same_itself}
use Rattle.file_release.specs.tag_dirs.TagPage.{next_of}
use Rattle.index_pages.specs.Changes.{DropsIndexPage, InsertsIndexPage, PutsIndexPage, first_with, home_in_front}
use Rattle.index_pages.specs.Homes.{AreIndexHomes, HasIndexPageAt, IsIndexPage, next_at, shown_at}
use Rattle.index_pages.specs.Links.{LinksIn, LinksPage}
use Rattle.index_pages.proofs.Homes.{Keeps, first_once, good_at, head_there, kept, kept_same, one_list, shown_same, tail_there}

-- two homes are one or not
other_home : (a b : Home) → ¬ a ≡ b → same_home a b ≡ false
other_home a b other = by_test (same_home a b) refl
  where
    by_test : (t : Bool) → same_home a b ≡ t → t ≡ false
    by_test true is = absurd (other (homes_same a b is))
    by_test false is = refl

pub is_there : (homes : List Home) (k : ℕ) (home : Home) → slice_get homes k ≡ Some home → Contains homes home
is_there homes k home is = (k, slice_get_within homes k home is, get_or_from_slice_get homes k home home is)

-- a good page is there
pub page_there : (o : Option (List ℕ)) → IsSomeAnd o IsIndexPage → IsSome o
page_there None good = absurd good
page_there (Some page) good = refl

pub room_there : (o : Option (List ℕ)) (room less : ℕ) → IsSomeAnd o IsIndexPage → cond (is_some o) room less ≡ room
room_there None room less good = absurd good
room_there (Some page) room less good = refl

-- and so at each home of an index
pub good_numbered : (pages : Pages) (first : Option Home) (homes : List Home) (number : ℕ) (home : Home) → AreIndexHomes pages first homes → slice_get homes number ≡ Some home
    → HasIndexPageAt pages home
good_numbered pages first homes number home are is = good_at pages first homes are home (is_there homes number home is)

pub good_in_front : (pages : Pages) (first : Option Home) (homes : List Home) (number : ℕ) → AreIndexHomes pages first homes → IfSome (home_in_front number homes) (HasIndexPageAt pages)
good_in_front pages first homes zero are = tt
good_in_front pages first homes (suc k) are = by_home (slice_get homes k) refl
  where
    by_home : (o : Option Home) → slice_get homes k ≡ o → IfSome o (HasIndexPageAt pages)
    by_home None is = tt
    by_home (Some home) is = good_numbered pages first homes k home are is

-- the home before a place is one of the index
pub in_front_there : (homes : List Home) (number : ℕ) (home : Home) → home_in_front number homes ≡ Some home → Contains homes home
in_front_there homes zero home is = absurd (none-some home is)
in_front_there homes (suc k) home is = is_there homes k home is

-- what stands at a home, if that is linked to a next one
module _ (new : Pages) (home : Home) (next : Option Home) (page : List ℕ) where
  linked_good : IsSomeAnd (new home) (LinksPage next page) → HasIndexPageAt new home
  linked_good linked = by_page (new home) linked
    where
      by_page : (o : Option (List ℕ)) → IsSomeAnd o (LinksPage next page) → IsSomeAnd o IsIndexPage
      by_page None linked = linked
      by_page (Some p) linked = linked.good

  linked_next : IsSomeAnd (new home) (LinksPage next page) → next_at new home ≡ next
  linked_next linked = by_page (new home) linked
    where
      by_page : (o : Option (List ℕ)) → IsSomeAnd o (LinksPage next page) → option_and_then next_of o ≡ next
      by_page None linked = absurd linked
      by_page (Some p) linked = linked.next_is

  linked_shown : IsSomeAnd (new home) (LinksPage next page) → shown_index (unwrap_or (new home) []) ≡ shown_index page
  linked_shown linked = by_page (new home) linked
    where
      by_page : (o : Option (List ℕ)) → IsSomeAnd o (LinksPage next page) → shown_index (unwrap_or o []) ≡ shown_index page
      by_page None linked = absurd linked
      by_page (Some p) linked = linked.shown

-- ** A page in place of another

-- an entry after the first is one of the others
entry_behind : (k : ℕ) (page first : List ℕ) (more : List (List ℕ)) → with_entry (suc k) page (first ∷ more) ≡ first ∷ with_entry k page more
entry_behind k page first more =
    let next : suc k + 1 ≡ suc (k + 1) = omega arith in
    ap (λ n. (first ∷ take k more) ++ page ∷ drop n (first ∷ more)) next

module _ (old new : Pages) (home : Home) (page : List ℕ) (linked : IsSomeAnd (new home) (LinksPage (next_at old home) page))
    (others : (h : Home) → same_home h home ≡ false → new h ≡ old h) where
  keeps : (first : Option Home) (homes : List Home) → AreIndexHomes old first homes → (h : Home) → Contains homes h → Keeps old new h
  keeps first homes are h there = by_test (same_home h home) refl
    where
      by_test : (t : Bool) → same_home h home ≡ t → Keeps old new h
      by_test true is = subst (Keeps old new) (sym (homes_same h home is)) (linked_good new home (next_at old home) page linked, linked_next new home (next_at old home) page linked)
      by_test false is = (subst (λ (o : Option (List ℕ)). IsSomeAnd o IsIndexPage) (sym (others h is)) (good_at old first homes are h there), ap (option_and_then next_of) (others h is))

  shown_put : (first : Option Home) (homes : List Home) (number : ℕ) → AreIndexHomes old first homes → slice_get homes number ≡ Some home
      → shown_at new homes ≡ with_entry number (shown_index page) (shown_at old homes)
  shown_put first [] number are is = absurd (no_home (slice_get_within [] number home is))
    where
      no_home : number < 0 → ⊥
      no_home less = omega (arith, less)
  shown_put None (h ∷ more) number are is = absurd are
  shown_put (Some first) (h ∷ more) zero are is =
      let same : h ≡ home = ap (λ (o : Option Home). unwrap_or o h) is in
      λ i. (ap (λ (x : Home). shown_index (unwrap_or (new x) [])) same ∙ linked_shown new home (next_at old home) page linked) i
      ∷ shown_same old new more (λ x there. others x (other_home x home (λ e. first_once old (Some first) h more are (subst (Contains more) (e ∙ sym same) there)))) i
  shown_put (Some first) (h ∷ more) (suc k) are is =
      let apart : ¬ h ≡ home = λ e. first_once old (Some first) h more are (subst (Contains more) (sym e) (is_there more k home is)) in
      (λ i. shown_index (unwrap_or (others h (other_home h home apart) i) []) ∷ shown_put (next_at old h) more k are.2 is i)
      ∙ sym (entry_behind k (shown_index page) (shown_index (unwrap_or (old h) [])) (shown_at old more))

  pub puts : (first : Option Home) (homes : List Home) (number : ℕ) → AreIndexHomes old first homes → slice_get homes number ≡ Some home
      → PutsIndexPage first number page old new homes
  puts first homes number are is = record {
    are = kept old new first homes are (keeps first homes are);
    shown = shown_put first homes number are is;
    others = λ h other. others h (other_home h home (λ e. other (is ∙ ap Some (sym e))));
  }

-- the page that was put there is linked on
pub put_linked : (old new : Pages) (home : Home) (next : Option Home) (page linked : List ℕ) → new ≡ with_page home linked old → next ≡ next_at old home → LinksPage next page linked
    → IsSomeAnd (new home) (LinksPage (next_at old home) page)
put_linked old new home next page linked is leads links =
    let at : new home ≡ Some linked = ap (λ (ps : Pages). ps home) is ∙ ap (λ (b : Bool). cond b (Some linked) (old home)) (same_itself home) in
    subst (λ (o : Option (List ℕ)). IsSomeAnd o (LinksPage (next_at old home) page)) (sym at) (subst (λ (o : Option Home). LinksPage o page linked) leads links)

pub put_others : (old new : Pages) (home : Home) (linked : List ℕ) → new ≡ with_page home linked old → (h : Home) → same_home h home ≡ false → new h ≡ old h
put_others old new home linked is h off = ap (λ (ps : Pages). ps h) is ∙ ap (λ (b : Bool). cond b (Some linked) (old h)) off

-- a number below the length has a home
pub not_past : (pages : Pages) (first : Option Home) (homes others : List Home) (number : ℕ) → AreIndexHomes pages first homes → AreIndexHomes pages first others
    → number < length others → slice_get homes number ≡ None → ⊥
not_past pages first homes others number are also below past =
    let same : homes ≡ others = one_list pages first homes others are also in
    by_homes homes (subst (λ (hs : List Home). number < length hs) (sym same) below) past
  where
    by_homes : (hs : List Home) → number < length hs → slice_get hs number ≡ None → ⊥
    by_homes [] below past = omega (arith, below)
    by_homes (h ∷ hs) below past = none-some (get_or (h ∷ hs) number h) (sym past ∙ slice_get-get_or (h ∷ hs) number h below)

-- ** A page more

module _ (old new : Pages) (onto : Home) (page : List ℕ) where
  -- the list, and what a set shows of it
  abbrev Inserted : Option Home → ℕ → List Home → Type 0
  Inserted first number homes = AreIndexHomes new (Some (first_with onto number first)) (insert homes number onto)
      × (shown_at new (insert homes number onto) ≡ insert (shown_at old homes) number (shown_index page))

  -- that another home begins the list does not matter if the page stands after one
  behind_any : (first other : Option Home) (before : Home) → LinksIn first (Some before) onto page old new → LinksIn other (Some before) onto page old new
  behind_any first other before links = record { is = links.is; links = links.links; others = links.others }

  in_front : (first : Option Home) (homes : List Home) → AreIndexHomes old first homes → ¬ Contains homes onto → LinksIn first None onto page old new
      → Inserted first 0 homes
  in_front first homes are apart links =
      let same : (h : Home) → Contains homes h → new h ≡ old h = λ h there. links.others h (other_home h onto (λ e. apart (subst (Contains homes) e there))) (none-some h) in (
        (refl, linked_good new onto first page links.is, subst (λ (o : Option Home). AreIndexHomes new o homes) (sym (linked_next new onto first page links.is)) (kept_same old new first homes are same)),
        λ i. linked_shown new onto first page links.is i ∷ shown_same old new homes same i,
      )

  second : (first : Option Home) (h : Home) (more : List Home) → AreIndexHomes old first (h ∷ more) → ¬ Contains (h ∷ more) onto → LinksIn first (Some h) onto page old new
      → Inserted first 1 (h ∷ more)
  second None h more are apart links = absurd are
  second (Some first) h more are apart links =
      let off : same_home h onto ≡ false = other_home h onto (λ e. apart (subst (Contains (h ∷ more)) e (head_there h more))) in
      let same : (x : Home) → Contains more x → new x ≡ old x = λ x there. links.others x
      (other_home x onto (λ e. apart (subst (Contains (h ∷ more)) e (tail_there h more x there))))
      (λ e. first_once old (Some first) h more are (subst (Contains more) (sym (ap (λ (o : Option Home). unwrap_or o h) e)) there)) in
      let at : IsSomeAnd (old h) (λ was. IsSomeAnd (new h) (LinksPage (Some onto) was)) = links.links in
      by_page (old h) refl at same
    where
      by_page : (o : Option (List ℕ)) → old h ≡ o → IsSomeAnd o (λ was. IsSomeAnd (new h) (LinksPage (Some onto) was)) → ((x : Home) → Contains more x → new x ≡ old x)
          → Inserted (Some first) 1 (h ∷ more)
      by_page None is at same = absurd at
      by_page (Some was) is at same = (
        (
          are.0,
          linked_good new h (Some onto) was at,
          subst (λ (o : Option Home). AreIndexHomes new o (onto ∷ more)) (sym (linked_next new h (Some onto) was at))
              (refl, linked_good new onto (next_at old h) page links.is, subst (λ (o : Option Home). AreIndexHomes new o more) (sym (linked_next new onto (next_at old h) page links.is)) (kept_same old new (next_at old h) more are.2 same)),
        ),
        λ i. (linked_shown new h (Some onto) was at ∙ ap (λ o. shown_index (unwrap_or o [])) (sym is)) i
            ∷ linked_shown new onto (next_at old h) page links.is i ∷ shown_same old new more same i,
      )

  -- the page before the new one is further on
  later : (first : Option Home) (h : Home) (more : List Home) (j : ℕ) → AreIndexHomes old first (h ∷ more) → ¬ Contains (h ∷ more) onto
      → (before : Home) → slice_get more j ≡ Some before → LinksIn first (Some before) onto page old new
      → Inserted (next_at old h) (suc j) more → Inserted first (suc (suc j)) (h ∷ more)
  later None h more j are apart before is links rest = absurd are
  later (Some first) h more j are apart before is links rest =
      let still : new h ≡ old h = links.others h (other_home h onto (λ e. apart (subst (Contains (h ∷ more)) e (head_there h more))))
      (λ e. first_once old (Some first) h more are (subst (Contains more) (ap (λ (o : Option Home). unwrap_or o h) e) (is_there more j before is))) in
      let leads : next_at new h ≡ Some (unwrap_or (next_at old h) onto) = ap (option_and_then next_of) still ∙ some_next (next_at old h) more are.2 is in (
        (are.0, subst (λ (o : Option (List ℕ)). IsSomeAnd o IsIndexPage) (sym still) are.1, subst (λ (o : Option Home). AreIndexHomes new o (insert more (suc j) onto)) (sym leads) rest.0),
        λ i. shown_index (unwrap_or (still i) []) ∷ rest.1 i,
      )
    where
      some_next : (next : Option Home) (homes : List Home) → AreIndexHomes old next homes → slice_get homes j ≡ Some before → next ≡ Some (unwrap_or next onto)
      some_next None [] are is = absurd (none-some before is)
      some_next None (x ∷ homes) are is = absurd are
      some_next (Some next) homes are is = refl

  inserted_behind : (first : Option Home) (homes : List Home) (k : ℕ) → AreIndexHomes old first homes → ¬ Contains homes onto
      → (before : Home) → slice_get homes k ≡ Some before → LinksIn first (Some before) onto page old new → Inserted first (suc k) homes
  inserted_behind first [] k are apart before is links = absurd (none-some before is)
  inserted_behind None (h ∷ more) k are apart before is links = absurd are
  inserted_behind (Some first) (h ∷ more) zero are apart before is links =
      second (Some first) h more are apart (subst (λ (x : Option Home). LinksIn (Some first) x onto page old new) (sym is) links)
  inserted_behind (Some first) (h ∷ more) (suc j) are apart before is links =
      later (Some first) h more j are apart before is links
      (inserted_behind (next_at old h) more j are.2 (λ there. apart (tail_there h more onto there)) before is (behind_any (Some first) (next_at old h) before links))

  pub inserts : (first : Option Home) (homes : List Home) (number : ℕ) → AreIndexHomes old first homes → number ≤ length homes → ¬ Contains homes onto
      → LinksIn first (home_in_front number homes) onto page old new → InsertsIndexPage (first_with onto number first) onto number page old new homes
  inserts first homes number are within apart links = record { are = (whole number within links).0; shown = (whole number within links).1; others = λ h off other. links.others h other (λ e. off (front number e)) }
    where
      front : (n : ℕ) {h : Home} → home_in_front n homes ≡ Some h → Contains homes h
      front zero {h} e = absurd (none-some h e)
      front (suc k) {h} e = is_there homes k h e

      whole : (n : ℕ) → n ≤ length homes → LinksIn first (home_in_front n homes) onto page old new → Inserted first n homes
      whole zero within links = in_front first homes are apart links
      whole (suc k) within links =
          let before : Home = unwrap_or (slice_get homes k) onto in
          let is : slice_get homes k ≡ Some before = slice_get-get_or homes k onto (omega (arith, within)) ∙ ap (λ (o : Option Home). Some (unwrap_or o onto)) (sym (slice_get-get_or homes k onto (omega (arith, within)))) in
          inserted_behind first homes k are apart before is (subst (λ (o : Option Home). LinksIn first o onto page old new) is links)

-- ** A page less

pub drops : (old new : Pages) (first : Home) (homes : List Home) → AreIndexHomes old (Some first) homes → new ≡ without_page first old
    → DropsIndexPage first (next_at old first) old new homes
drops old new first [] are is = absurd are
drops old new first (h ∷ more) are is = record {
  more = more;
  was = λ i. sym are.0 i ∷ more;
  are = kept_same old new (next_at old first) more (subst (λ (x : Home). AreIndexHomes old (next_at old x) more) (sym are.0) are.2) same;
  shown = shown_same old new more same;
  gone = ap (λ (ps : Pages). ps first) is ∙ ap (λ (b : Bool). cond b None (old first)) (same_itself first);
  others = away;
}
  where
    away : (x : Home) → same_home x first ≡ false → new x ≡ old x
    away x off = ap (λ (ps : Pages). ps x) is ∙ ap (λ (b : Bool). cond b None (old x)) off

    same : (x : Home) → Contains more x → new x ≡ old x
    same x there = away x (other_home x first (λ e. first_once old (Some first) h more are (subst (Contains more) (e ∙ are.0) there)))
