-- Each step leaves less to be let go of.
use Rattle.std.proofs.Common.{◌≡◌, ◌∙◌, ◌+◌, ◌-◌, ◌&&◌, ⊎_elim, ℕ, zero, suc, ◌<◌, ◌≤◌, Bool, true, false, cond, nat_le, List, [], ◌∷◌, ◌++◌, Option, Some, None, Contains, is_some, length, sum_by, refl, sym, ap, subst, arith}
use Rattle.std.proofs.lemmas.Bool.{and_from, cases_eq, le-leb, true≢false}
use Rattle.std.proofs.lemmas.List.{length-map}
use Rattle.std.proofs.lemmas.List.Sums.{sum_by-cons, sum_by_push}
use Rattle.std.specs.List.{AllByRecursion}
use Rattle.std.specs.Option.{option_map_or}
use Rattle.release_list.specs.domain_base.declared.place.CellAt.{CellAt}
use Rattle.release_list.specs.domain_base.declared.place.Home.{Home}
use Rattle.release_list.specs.domain_base.declared.version.Version.{Version}
use Rattle.release_list.specs.metadata_cells.Chain.{PlacedCell, records_of}
use Rattle.release_list.specs.extent_maps.declared.run.PagePlace.{PagePlace}
use Rattle.release_list.specs.extent_maps.declared.run.PagePlace.TheVariants.{Absent, At, Hole}
use Rattle.release_list.specs.extent_maps.declared.run.Run.{Run}
use Rattle.release_list.specs.extent_maps.Runs.{behind, covers, place_of, placed}
use Rattle.release_list.proofs.OfExtentMaps.EditLemmas.{covers_is}
use Rattle.release_list.specs.extent_records.Rows.{IsPlaced, runs_of}
use Rattle.release_list.specs.free_cells.Cells.{Cells}
use Rattle.release_list.specs.file_chains.Files.{places_of}
use Rattle.release_list.specs.file_release.declared.released.Released.{Released}
use Rattle.release_list.specs.file_release.declared.released.Released.TheVariants as released
use Rattle.release_list.specs.file_release.Releases.{Progresses}
use Rattle.release_list.proofs.OfFileRelease.Once.{file_map}
use Rattle.release_list.specs.declared.list.Entry.{Entry}
use Rattle.release_list.specs.Listed.{stale_from}
use Rattle.release_list.specs.Listing.{Listing, clone_but, without, without_clone}
use Rattle.release_list.specs.Steps.{EndsFile, EndsReading, GivesTagPage, IsWell, LetsPages, LosesQuotaCell, Now, Step, Steps, file_ends, more, none, pages_go, quota_goes, reading_ends, tag_page_goes, trim_ends}
use Rattle.release_list.proofs.Lists.{AreEntriesOnce, but_either, longer, not_last}
use Rattle.release_list.proofs.Standings.{quota_place}
use Rattle.release_steps.specs.ToDo.{count_below, goes, is_there, left_in, left_of_entry, left_to_do}
use Rattle.release_steps.proofs.Ended.{ended_other, reading_other, same_file, trim_other}
use Rattle.release_steps.proofs.Fits.{Fits, alone, well_fits}
use Rattle.release_steps.proofs.Narrower.{in_front, in_last}
use Rattle.release_steps.proofs.PagesGo.{after_stale, at_other, at_source}
use Rattle.release_steps.proofs.Wells.{well_step}
use Rattle.release_steps.proofs.QuotaStep.{chain, quota_beside, quota_is}

-- ---- counts

abbrev bit : Bool → ℕ
bit b = cond b 1 0

bit_le : (a b : Bool) → (a ≡ true → b ≡ true) → bit a ≤ bit b
bit_le false b has = omega arith
bit_le true b has = let e : bit b ≡ 1 = ap bit (has refl) in omega (arith, e)

count_le : (p q : ℕ → Bool) (n : ℕ) → ((k : ℕ) → q k ≡ true → p k ≡ true) → count_below q n ≤ count_below p n
unfolding count_below
count_le p q zero has = omega arith
count_le p q (suc n) has =
    let rest = count_le p q n has in
    let here = bit_le (q n) (p n) (has n) in
    omega (arith, rest, here)

count_less : (p q : ℕ → Bool) (n k : ℕ) → k < n → ((k : ℕ) → q k ≡ true → p k ≡ true) → p k ≡ true → q k ≡ false → count_below q n + 1 ≤ count_below p n
unfolding count_below
count_less p q zero k less has was gone = absurd (omega (arith, less))
count_less p q (suc n) k less has was gone = ⊎_elim
    (λ same.
    let rest = count_le p q n has in
    let one : bit (p n) ≡ 1 = ap (λ (j : ℕ). bit (p j)) (sym same) ∙ ap bit was in
    let no : bit (q n) ≡ 0 = ap (λ (j : ℕ). bit (q j)) (sym same) ∙ ap bit gone in
    omega (arith, rest, one, no))
    (λ other.
    let rest = count_less p q n k (omega (arith, less, other)) has was gone in
    let here = bit_le (q n) (p n) (has n) in
    omega (arith, rest, here))
    (cases_eq k n)

sum_same : (f g : Entry → ℕ) (xs : List Entry) → ((e : Entry) → Contains xs e → g e ≡ f e) → sum_by g xs ≡ sum_by f xs
sum_same f g [] same = refl
sum_same f g (x ∷ xs) same =
    sum_by-cons g x xs ∙ ap (λ (n : ℕ). n + sum_by g xs) (same x (0, omega arith, refl))
    ∙ ap (λ (n : ℕ). f x + n) (sum_same f g xs (λ e inside. same e (suc inside.0, omega (arith, inside.1), inside.2))) ∙ sym (sum_by-cons f x xs)

sum_below : (f g : Entry → ℕ) (at : CellAt) (xs : List Entry) → ((e : Entry) → Contains xs e → g (without at e) ≤ f e) → sum_by g (without_clone at xs) ≤ sum_by f xs
sum_below f g at [] less = omega arith
sum_below f g at (x ∷ xs) less =
    let here = less x (0, omega arith, refl) in
    let rest = sum_below f g at xs (λ e inside. less e (suc inside.0, omega (arith, inside.1), inside.2)) in
    omega (arith, here, rest, sum_by-cons g (without at x) (without_clone at xs), sum_by-cons f x xs)

-- ---- pages

small_page : (runs : List Run) → AllByRecursion IsPlaced runs → (page : ℕ) → ¬ place_of runs page ≡ Absent → page < 65536
small_page [] all page there = absurd (there refl)
small_page (run ∷ runs) all page there = by_cover (λ later. small_page runs all.1 page later) (covers run page) refl there
  where
    by_cover : (¬ place_of runs page ≡ Absent → page < 65536) → (b : Bool) → covers run page ≡ b → ¬ cond b (placed (behind (page - run.page) run.first)) (place_of runs page) ≡ Absent → page < 65536
    by_cover rest true is there = let inside = covers_is run page is in omega (arith, inside.1, all.0.is_run.ends)
    by_cover rest false is there = rest there

there_is : (place : PagePlace) → ¬ place ≡ Absent → is_there place ≡ true
there_is (At home) not = refl
there_is Hole not = refl
there_is Absent not = absurd (not refl)

and_no : (b : Bool) → (b && false) ≡ false
and_no true = refl
and_no false = refl

goes_not : (chain : List PlacedCell) (page : ℕ) → places_of chain page ≡ Absent → goes chain page ≡ false
goes_not chain page gone = ap (λ x. nat_le (stale_from chain) page && is_there x) gone ∙ and_no (nat_le (stale_from chain) page)

-- ---- the steps

module _ (group : ℕ) (version : Version) (old new : Now) (well : IsWell old) where
  fits : Fits old
  fits = well_fits old well

  abbrev f : Entry → ℕ
  f = left_of_entry old.files

  abbrev g : Entry → ℕ
  g = left_of_entry new.files

  same_entry : (e : Entry) → new.files e.at ≡ old.files e.at → g e ≡ f e
  same_entry e same = ap (λ o. 1 + cond (is_some e.clone) 1 0 + option_map_or left_in o 0) same

  once_by : (front : List Entry) (entry : Entry) → old.list.entries ≡ front ++ entry ∷ [] → AreEntriesOnce (front ++ entry ∷ [])
  once_by front entry last = subst AreEntriesOnce last well.listed.once

  module _ (s : LetsPages group version old new) where
    still_goes : (k : ℕ) → goes s.releases.after k ≡ true → goes s.chain k ≡ true
    still_goes k is = ⊎_elim
        (λ kept.
        sym (ap (λ n. nat_le n k && is_there (places_of s.releases.after k)) (after_stale group version old new fits s) ∙ ap (λ x. nat_le (stale_from s.chain) k && is_there x) kept) ∙ is)
        (λ gone. absurd (true≢false (sym is ∙ goes_not s.releases.after k gone)))
        (s.releases.pages.left k)

    fewer : (what : Released) (between : Cells) → Progresses what (stale_from s.chain) s.chain s.releases.after between new.cells → left_in s.releases.after + 1 ≤ left_in s.chain
    fewer released.Nothing between progress = absurd progress
    fewer released.Pages between progress =
        let small = small_page (runs_of (records_of s.chain)) (file_map old.pages s.entry.at s.chain s.file).placed progress.page progress.was in
        let went = count_less (goes s.chain) (goes s.releases.after) 65536 progress.page small still_goes
        (and_from (nat_le (stale_from s.chain) progress.page) (is_there (places_of s.chain progress.page)) (le-leb (stale_from s.chain) progress.page progress.begins) (there_is (places_of s.chain progress.page) progress.was))
        (goes_not s.releases.after progress.page progress.gone) in
        let long : length s.releases.after ≡ length s.chain =
        sym (length-map s.releases.after (λ (c : PlacedCell). c.at)) ∙ ap length progress.same_places ∙ length-map s.chain (λ (c : PlacedCell). c.at) in
        omega (arith, went, long)
    fewer released.Cell between progress =
        let went = count_le (goes s.chain) (goes s.releases.after) 65536 still_goes in
        let long = progress.fewer in
        omega (arith, went, long)

    pages_fewer : left_to_do new + 1 ≤ left_to_do old
    pages_fewer =
        let inside = in_last old.list s.front s.entry s.last in
        let front = sum_same f g s.front (λ e is. same_entry e (at_other group version old new fits s e.at (not_last s.front s.entry e (once_by s.front s.entry s.last) is)
        (alone old fits s.front s.entry s.last e (in_front old.list s.front s.entry e s.last is)))) in
        let was : f s.entry ≡ 1 + cond (is_some s.entry.clone) 1 0 + left_in s.chain = ap (λ o. 1 + cond (is_some s.entry.clone) 1 0 + option_map_or left_in o 0) s.is in
        let is : g s.entry ≡ 1 + cond (is_some s.entry.clone) 1 0 + left_in s.releases.after = ap (λ o. 1 + cond (is_some s.entry.clone) 1 0 + option_map_or left_in o 0) (at_source group version old new fits s) in
        let less = fewer s.what s.releases.cells_between s.releases.progress in
        let all_old : sum_by f old.list.entries ≡ sum_by f s.front + f s.entry = ap (sum_by f) s.last ∙ sum_by_push f s.front s.entry in
        let all_new : sum_by g new.list.entries ≡ sum_by g s.front + g s.entry = ap (λ (l : Listing). sum_by g l.entries) s.same_list ∙ ap (sum_by g) s.last ∙ sum_by_push g s.front s.entry in
        let tags : length new.list.tag_pages ≡ length old.list.tag_pages = ap (λ (l : Listing). length l.tag_pages) s.same_list in
        omega (arith, front, was, is, less, all_old, all_new, tags)

  -- a quota cell goes
  quota_fewer : LosesQuotaCell old new → left_to_do new + 1 ≤ left_to_do old
  quota_fewer s =
      let cells = chain group version old new s in
      let front = sum_same f g s.front (λ e is. same_entry e (quota_beside group version old new s e.at (not_last s.front s.entry e (once_by s.front s.entry s.last) is))) in
      let was : f s.entry ≡ 1 + cond (is_some s.entry.clone) 1 0 + left_in cells = ap (λ o. 1 + cond (is_some s.entry.clone) 1 0 + option_map_or left_in o 0) s.is in
      let is : g s.entry ≡ 1 + cond (is_some s.entry.clone) 1 0 + left_in s.after = ap (λ o. 1 + cond (is_some s.entry.clone) 1 0 + option_map_or left_in o 0) (quota_is group version old new s) in
      let gone : (k : ℕ) → goes s.after k ≡ true → goes cells k ≡ true =
      λ k there. absurd (true≢false (sym there ∙ goes_not s.after k (quota_place new.pages s.entry.at s.after s.stands k))) in
      let pages = count_le (goes cells) (goes s.after) 65536 gone in
      let long : length s.after ≡ suc (length s.rest) = ap length s.after_is in
      let all_old : sum_by f old.list.entries ≡ sum_by f s.front + f s.entry = ap (sum_by f) s.last ∙ sum_by_push f s.front s.entry in
      let all_new : sum_by g new.list.entries ≡ sum_by g s.front + g s.entry = ap (λ (l : Listing). sum_by g l.entries) s.same_list ∙ ap (sum_by g) s.last ∙ sum_by_push g s.front s.entry in
      let tags : length new.list.tag_pages ≡ length old.list.tag_pages = ap (λ (l : Listing). length l.tag_pages) s.same_list in
      omega (arith, front, was, is, pages, long, all_old, all_new, tags)

  -- the last entry goes
  entry_fewer : (front : List Entry) (entry : Entry) → old.list.entries ≡ front ++ entry ∷ [] → new.list ≡ record { entries = front; tag_pages = old.list.tag_pages } → ((a : CellAt) → ¬ a ≡ entry.at → new.files a ≡ old.files a) → left_to_do new + 1 ≤ left_to_do old
  entry_fewer front entry last list other =
      let same = sum_same f g front (λ e is. same_entry e (other e.at (not_last front entry e (once_by front entry last) is))) in
      let all_old : sum_by f old.list.entries ≡ sum_by f front + f entry = ap (sum_by f) last ∙ sum_by_push f front entry in
      let all_new : sum_by g new.list.entries ≡ sum_by g front = ap (λ (l : Listing). sum_by g l.entries) list in
      let tags : length new.list.tag_pages ≡ length old.list.tag_pages = ap (λ (l : Listing). length l.tag_pages) list in
      omega (arith, same, all_old, all_new, tags)

  -- and so does its file
  clone_or_not : (at : CellAt) (o : Option CellAt) → bit (is_some (clone_but at o)) ≤ bit (is_some o)
  clone_or_not at o = ⊎_elim
      (λ kept. let e = ap (λ x. bit (is_some x)) kept in omega (arith, e))
      (λ gone. let e : bit (is_some (clone_but at o)) ≡ 0 = ap (λ x. bit (is_some x)) gone in omega (arith, e))
      (but_either at o)

  file_fewer : EndsFile old new → left_to_do new + 1 ≤ left_to_do old
  file_fewer s =
      let less = sum_below f g s.entry.at s.front (λ e is.
      let same = ap (λ o. option_map_or left_in o 0) (ended_other group version old new fits s e.at (not_last s.front s.entry e (once_by s.front s.entry s.last) is)) in
      let clone = clone_or_not s.entry.at e.clone in
      omega (arith, same, clone)) in
      let all_old : sum_by f old.list.entries ≡ sum_by f s.front + f s.entry = ap (sum_by f) s.last ∙ sum_by_push f s.front s.entry in
      let all_new : sum_by g new.list.entries ≡ sum_by g (without_clone s.entry.at s.front) = ap (λ (l : Listing). sum_by g l.entries) s.list in
      let tags : length new.list.tag_pages ≡ length old.list.tag_pages = ap (λ (l : Listing). length l.tag_pages) s.list in
      omega (arith, less, all_old, all_new, tags)

  reading_fewer : EndsReading old new → left_to_do new + 1 ≤ left_to_do old
  reading_fewer s =
      let inside = in_last old.list s.front s.entry s.last in
      let beside : (e : Entry) → Contains old.list.entries e → new.files e.at ≡ old.files e.at =
      λ e is. reading_other group version old new fits s e.at (λ same. alone old fits s.front s.entry s.last e is (s.given ∙ ap Some (sym same))) in
      let sole : Entry = record s.entry { clone = None } in
      let front = sum_same f g s.front (λ e is. same_entry e (beside e (in_front old.list s.front s.entry e s.last is))) in
      let chain = beside s.entry inside in
      let was : f s.entry ≡ 1 + 1 + option_map_or left_in (old.files s.entry.at) 0 = ap (λ o. 1 + cond (is_some o) 1 0 + option_map_or left_in (old.files s.entry.at) 0) s.given in
      let is : g sole ≡ 1 + 0 + option_map_or left_in (old.files s.entry.at) 0 = ap (λ o. 1 + 0 + option_map_or left_in o 0) chain in
      let all_old : sum_by f old.list.entries ≡ sum_by f s.front + f s.entry = ap (sum_by f) s.last ∙ sum_by_push f s.front s.entry in
      let all_new : sum_by g new.list.entries ≡ sum_by g s.front + g sole = ap (λ (l : Listing). sum_by g l.entries) s.list ∙ sum_by_push g s.front sole in
      let tags : length new.list.tag_pages ≡ length old.list.tag_pages = ap (λ (l : Listing). length l.tag_pages) s.list in
      omega (arith, front, was, is, all_old, all_new, tags)

  homes_longer : (xs : List Home) (x : Home) → length (xs ++ x ∷ []) ≡ suc (length xs)
  homes_longer xs x = longer xs x

  tag_fewer : GivesTagPage group old new → left_to_do new + 1 ≤ left_to_do old
  tag_fewer s =
      let same = sum_same f g old.list.entries (λ e is. same_entry e (same_file group version old new fits s e.at)) in
      let all_new : sum_by g new.list.entries ≡ sum_by g old.list.entries = ap (λ (l : Listing). sum_by g l.entries) s.takes.is in
      let now : length new.list.tag_pages ≡ length s.takes.front = ap (λ (l : Listing). length l.tag_pages) s.takes.is in
      let was : length old.list.tag_pages ≡ suc (length s.takes.front) = ap length s.takes.last ∙ homes_longer s.takes.front s.takes.home in
      omega (arith, same, all_new, now, was)

  step_fewer : Step group version old new → left_to_do new + 1 ≤ left_to_do old
  step_fewer (pages_go s) = pages_fewer s
  step_fewer (quota_goes s) = quota_fewer s
  step_fewer (trim_ends s) = entry_fewer s.front s.entry s.last s.list (trim_other group version old new fits s)
  step_fewer (reading_ends s) = reading_fewer s
  step_fewer (file_ends s) = file_fewer s
  step_fewer (tag_page_goes s) = tag_fewer s

record IsLess (first : Now) (count : ℕ) (last : Now) : Type 0 where
  well : IsWell last
  less : count + left_to_do last ≤ left_to_do first

pub steps_fewer : (group : ℕ) (version : Version) (first : Now) (count : ℕ) (last : Now) → IsWell first → Steps group version first count last → count + left_to_do last ≤ left_to_do first
steps_fewer group version first count last well steps = all.less
  where
    all : IsLess first count last
    all = elim steps as (λ count last steps. IsLess first count last) [
      | none ↦ record { well = well; less = omega arith }
      | more n between last (steps → was) step ↦ record {
        well = well_step group version between last was.well step;
        less = omega (arith, was.less, step_fewer group version between last was.well step);
      }
    ]
