-- Pages of tag directories on a list lead to each other, or to none.
use Rattle.std.proofs.Common.{◌≡◌, ◌∙◌, inl, inr, ℕ, zero, suc, ◌+◌, ◌-◌, ◌<◌, ◌≤◌, false, List, [], ◌∷◌, ◌++◌, Option, Some, None, IfSome, IsSomeAnd, Contains, length, slice_get, refl, sym, ap, subst, arith, ⊎_elim}
use Rattle.std.proofs.lemmas.Bool.{both_ways, cases_Bool, cases_lt}
use Rattle.std.proofs.lemmas.Option.{get_or_from_slice_get, slice_get_past, slice_get_within}
use Rattle.std.specs.Option.{option_map}
use Rattle.release_list.specs.domain_base.declared.place.Home.{Home}
use Rattle.release_list.specs.domain_base.declared.version.Version.{Version}
use Rattle.release_list.specs.page_store.Pages.{Pages, same_home}
use Rattle.release_list.proofs.OfMetadataCells.Changed.{homes_same, same_itself}
use Rattle.release_list.specs.tag_dirs.TagPage.{next_of}
use Rattle.release_list.specs.tag_dirs.declared.dir.TagPlace.{TagPlace}
use Rattle.release_list.specs.tag_dirs.Directory.{IsDirectory, IsPageOf, Unlinks, home_behind}
use Rattle.release_list.specs.free_cells.Cells.{table_of}
use Rattle.release_list.specs.Listing.{Listing}
use Rattle.release_list.specs.Steps.{GivesTagPage, IsWell, Now, Step, Steps, file_ends, last_home, more, none, pages_go, quota_goes, reading_ends, tag_page_goes, trim_ends}
use Rattle.release_steps.specs.Links.{LeadOn, LeadsBehind, homes_of}
use Rattle.release_steps.proofs.Wells.{well_step}

-- ---- lists

get_start : (xs ys : List Home) (k : ℕ) → k < length xs → slice_get (xs ++ ys) k ≡ slice_get xs k
get_start [] ys k within = absurd (omega (arith, within))
get_start (x ∷ xs) ys zero within = refl
get_start (x ∷ xs) ys (suc k) within = get_start xs ys k (omega (arith, within))

get_end : (xs : List Home) (y : Home) → slice_get (xs ++ y ∷ []) (length xs) ≡ Some y
get_end [] y = refl
get_end (x ∷ xs) y = get_end xs y

get_behind : (xs ys : List Home) (k : ℕ) → length xs ≤ k → slice_get (xs ++ ys) k ≡ slice_get ys (k - length xs)
get_behind [] ys k within = ap (slice_get ys) (omega arith)
get_behind (x ∷ xs) ys zero within = absurd (omega (arith, within))
get_behind (x ∷ xs) ys (suc k) within = get_behind xs ys k (omega (arith, within)) ∙ ap (slice_get ys) (omega arith)

pub get_home : (places : List TagPlace) (k : ℕ) → slice_get (homes_of places) k ≡ option_map (λ (p : TagPlace). p.home) (slice_get places k)
get_home [] k = refl
get_home (p ∷ ps) zero = refl
get_home (p ∷ ps) (suc k) = get_home ps k

inside : (homes : List Home) (k : ℕ) (home : Home) → slice_get homes k ≡ Some home → Contains homes home
inside homes k home is = (k, slice_get_within homes k home is, get_or_from_slice_get homes k home home is)

-- ---- a page of them

-- what is so of a place's page where the place has one
leads_at : (pages : Pages) (homes : List Home) → LeadOn pages homes → (k : ℕ) (home : Home) → slice_get homes k ≡ Some home → IfSome (pages home) (LeadsBehind homes k)
leads_at pages homes leads k home is = subst (λ o. IfSome o (λ home. IfSome (pages home) (LeadsBehind homes k))) is (leads k)

lead_by : (pages : Pages) (homes : List Home) → ((k : ℕ) (home : Home) → slice_get homes k ≡ Some home → IfSome (pages home) (LeadsBehind homes k)) → LeadOn pages homes
lead_by pages homes all k = by_home (slice_get homes k) refl
  where
    by_home : (o : Option Home) → slice_get homes k ≡ o → IfSome o (λ home. IfSome (pages home) (LeadsBehind homes k))
    by_home None is = tt
    by_home (Some home) is = all k home is

if_page : (o : Option (List ℕ)) (P Q : List ℕ → Type 0) → ((page : List ℕ) → o ≡ Some page → P page → Q page) → IfSome o P → IfSome o Q
if_page None P Q f is = tt
if_page (Some page) P Q f is = f page refl is

-- ---- a directory is listed

module _ (pages : Pages) (homes : List Home) (places : List TagPlace) (dir : IsDirectory pages places) (leads : LeadOn pages homes) where
  abbrev joined : List Home
  joined = homes ++ homes_of places

  in_front : (k : ℕ) (home : Home) → slice_get homes k ≡ Some home → IfSome (pages home) (LeadsBehind joined k)
  in_front k home is = if_page (pages home) (LeadsBehind homes k) (LeadsBehind joined k)
      (λ page there behind. ⊎_elim
      (λ nowhere. inl nowhere)
      (λ next. ⊎_elim
      (λ less. inr (next ∙ sym (get_start homes (homes_of places) (k + 1) less)))
      (λ not_less. inl (next ∙ slice_get_past homes (k + 1) (omega (arith, not_less))))
      (cases_lt (k + 1) (length homes)))
      behind)
      (leads_at pages homes leads k home is)

  added : (k : ℕ) (home : Home) → length homes ≤ k → slice_get (homes_of places) (k - length homes) ≡ Some home → IfSome (pages home) (LeadsBehind joined k)
  added k home past is = by_place (slice_get places (k - length homes)) (sym (get_home places (k - length homes)) ∙ is) (dir.run (k - length homes))
    where
      none_some : (h : Home) → None ≡ Some h → ⊥
      none_some h e = cc

      some_one : (a b : Home) → Some a ≡ Some b → a ≡ b
      some_one a b e = cc

      behind : option_map (λ (p : TagPlace). p.home) (slice_get places (k - length homes + 1)) ≡ slice_get joined (k + 1)
      behind = sym (get_home places (k - length homes + 1)) ∙ ap (slice_get (homes_of places)) (omega (arith, past)) ∙ sym (get_behind homes (homes_of places) (k + 1) (omega (arith, past)))

      by_page : (o : Option (List ℕ)) (place : TagPlace) → IsSomeAnd o (IsPageOf place (home_behind places (k - length homes))) → IfSome o (LeadsBehind joined k)
      by_page None place are = tt
      by_page (Some page) place are = inr (are.linked ∙ behind)

      by_place : (o : Option TagPlace) → option_map (λ (p : TagPlace). p.home) o ≡ Some home → IfSome o (λ place. IsSomeAnd (pages place.home) (IsPageOf place (home_behind places (k - length homes)))) → IfSome (pages home) (LeadsBehind joined k)
      by_place None at run = absurd (none_some home at)
      by_place (Some place) at run = subst (λ (h : Home). IfSome (pages h) (LeadsBehind joined k)) (some_one place.home home at) (by_page (pages place.home) place run)

  pub listed_in_order : LeadOn pages joined
  listed_in_order = lead_by pages joined (λ k home is. ⊎_elim
      (λ less. in_front k home (sym (get_start homes (homes_of places) k less) ∙ is))
      (λ not_less. added k home (omega (arith, not_less)) (sym (get_behind homes (homes_of places) k (omega (arith, not_less))) ∙ is))
      (cases_lt k (length homes)))

-- ---- one step

module _ (group : ℕ) (version : Version) (old new : Now) (well : IsWell old) where
  -- the list has the same pages, and they stay
  module _ (same : new.list.tag_pages ≡ old.list.tag_pages) (stays : (h : Home) → ¬ Contains (table_of new.cells h.vol) h.page → new.pages h ≡ old.pages h) (well_now : IsWell new) where
    kept : LeadOn old.pages old.list.tag_pages → LeadOn new.pages new.list.tag_pages
    kept leads = subst (LeadOn new.pages) (sym same) (lead_by new.pages old.list.tag_pages (λ k home is.
        subst (λ o. IfSome o (LeadsBehind old.list.tag_pages k))
        (sym (stays home (well_now.listed.pages_held home (subst (λ (hs : List Home). Contains hs home) (sym same) (inside old.list.tag_pages k home is))).off_table))
        (leads_at old.pages old.list.tag_pages leads k home is)))

  -- the last one goes
  module _ (s : GivesTagPage group old new) (leads : LeadOn old.pages old.list.tag_pages) where
    abbrev front : List Home
    front = s.takes.front

    abbrev all : List Home
    all = s.takes.front ++ s.takes.home ∷ []

    led : LeadOn old.pages all
    led = subst (LeadOn old.pages) s.takes.last leads

    -- a page that is as it was
    same_page : (k : ℕ) (home : Home) → slice_get front k ≡ Some home → new.pages home ≡ old.pages home → ((page : List ℕ) → k + 1 ≡ length front → old.pages home ≡ Some page → ¬ next_of page ≡ Some s.takes.home) → IfSome (new.pages home) (LeadsBehind front k)
    same_page k home is same not_last =
        let within = slice_get_within front k home is in
        subst (λ o. IfSome o (LeadsBehind front k)) (sym same)
        (if_page (old.pages home) (LeadsBehind all k) (LeadsBehind front k)
        (λ page there behind. ⊎_elim
        (λ nowhere. inl nowhere)
        (λ next. ⊎_elim
        (λ less. inr (next ∙ get_start front (s.takes.home ∷ []) (k + 1) less))
        (λ not_less.
        let end : k + 1 ≡ length front = omega (arith, within, not_less) in
        absurd (not_last page end there (next ∙ ap (slice_get all) end ∙ get_end front s.takes.home)))
        (cases_lt (k + 1) (length front)))
        behind)
        (leads_at old.pages all led k home (get_start front (s.takes.home ∷ []) k within ∙ is)))

    at_end : (k : ℕ) (home : Home) → slice_get front k ≡ Some home → k + 1 ≡ length front → last_home front ≡ Some home
    at_end k home is end = let at : length front - 1 ≡ k = omega (arith, end) in ap (slice_get front) at ∙ is

    some_is_none : (h : Home) → None ≡ Some h → ⊥
    some_is_none h e = cc

    some_same : (a b : Home) → Some a ≡ Some b → a ≡ b
    some_same a b e = cc

    one : (k : ℕ) (home : Home) → slice_get front k ≡ Some home → IfSome (new.pages home) (LeadsBehind front k)
    one k home is = by_front (last_home front) refl s.takes.unlinks
      where
        by_front : (o : Option Home) → last_home front ≡ o → Unlinks o s.takes.home old.pages new.pages → IfSome (new.pages home) (LeadsBehind front k)
        by_front None empty same = same_page k home is (ap (λ (ps : Pages). ps home) same) (λ page end there next. some_is_none home (sym empty ∙ at_end k home is end))
        by_front (Some f) last unlinks = ⊎_elim
            (λ ends. ⊎_elim
            (λ same. subst (λ o. IfSome o (LeadsBehind front k)) (sym (ap new.pages (homes_same home f same) ∙ ends.is)) (inl ends.change.next))
            (λ other. same_page k home is (ends.elsewhere home other)
            (λ page end there next.
            let it = some_same f home (sym last ∙ at_end k home is end) in
            not_itself home (subst (λ (h : Home). same_home home h ≡ false) it other)))
            (cases_Bool (same_home home f)))
            (λ e. same_page k home is (ap (λ (ps : Pages). ps home) e.same)
            (λ page end there next.
            let it = some_same f home (sym last ∙ at_end k home is end) in
            subst (λ o. IfSome o (λ page. ¬ next_of page ≡ Some s.takes.home)) (ap old.pages it ∙ there) e.other next))
            unlinks
          where
            not_itself : (h : Home) → same_home h h ≡ false → ⊥
            not_itself h other = both_ways (same_home h h) other (same_itself h)

    given : LeadOn new.pages new.list.tag_pages
    given = subst (λ (l : Listing). LeadOn new.pages l.tag_pages) (sym s.takes.is) (lead_by new.pages front one)

  lead_step : Step group version old new → LeadOn old.pages old.list.tag_pages → LeadOn new.pages new.list.tag_pages
  lead_step (pages_go s) leads = kept (ap (λ (l : Listing). l.tag_pages) s.same_list) s.elsewhere (well_step group version old new well (pages_go s)) leads
  lead_step (quota_goes s) leads = kept (ap (λ (l : Listing). l.tag_pages) s.same_list) s.elsewhere (well_step group version old new well (quota_goes s)) leads
  lead_step (trim_ends s) leads = kept (ap (λ (l : Listing). l.tag_pages) s.list) s.elsewhere (well_step group version old new well (trim_ends s)) leads
  lead_step (reading_ends s) leads = kept (ap (λ (l : Listing). l.tag_pages) s.list) s.elsewhere (well_step group version old new well (reading_ends s)) leads
  lead_step (file_ends s) leads = kept (ap (λ (l : Listing). l.tag_pages) s.list) s.elsewhere (well_step group version old new well (file_ends s)) leads
  lead_step (tag_page_goes s) leads = given s leads

-- ---- any number

record LeadStill (now : Now) : Type 0 where
  well : IsWell now
  leads : LeadOn now.pages now.list.tag_pages

lead_still : (group : ℕ) (version : Version) (first : Now) (count : ℕ) (last : Now) → IsWell first → Steps group version first count last → LeadOn first.pages first.list.tag_pages → LeadStill last
lead_still group version first count last well steps leads =
    elim steps as (λ count last steps. LeadStill last) [
      | none ↦ record { well = well; leads = leads }
      | more n between last (steps → was) step ↦ record {
        well = well_step group version between last was.well step;
        leads = lead_step group version between last was.well step was.leads;
      }
    ]

pub links_stay : (group : ℕ) (version : Version) (first : Now) (count : ℕ) (last : Now) → IsWell first → Steps group version first count last → LeadOn first.pages first.list.tag_pages → LeadOn last.pages last.list.tag_pages
links_stay group version first count last well steps leads = (lead_still group version first count last well steps leads).leads
