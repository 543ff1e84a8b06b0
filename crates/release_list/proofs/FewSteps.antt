-- How many pages steps change.
use Rattle.std.proofs.Common.{◌≡◌, ◌∙◌, ◌⊎◌, ◌+◌, ◌-◌, ◌*◌, ◌≤◌, ◌++◌, ◌∷◌, ℕ, List, [], Option, Some, None, length, slice_get, refl, sym, ap, subst, arith, ⊎_elim}
use Rattle.file_release.specs.domain_base.declared.place.CellAt.{CellAt}
use Rattle.file_release.specs.domain_base.declared.place.Home.{Home}
use Rattle.file_release.specs.domain_base.declared.version.Version.{Version}
use Rattle.file_release.specs.tag_dirs.Directory.{Unlinks}
use Rattle.file_release.specs.page_store.Pages.{Pages}
use Rattle.file_release.specs.metadata_cells.Chain.{PlacedCell}
use Rattle.file_release.specs.free_cells.Cells.{Cells}
use Rattle.file_release.specs.free_space.Spaces.{Spaces}
use Rattle.file_release.specs.file_chains.Files.{places_of}
use Rattle.file_release.specs.file_chains.MapChanges.{ChangesAtMost}
use Rattle.file_release.proofs.OfFileChains.FewPages.{at_most, none_changes, one_changes, then_changes}
use Rattle.file_release.specs.declared.reader.Reader.{Reader}
use Rattle.file_release.specs.Releases.{HandsPage}
use Rattle.file_release.specs.Sharing.{frozen_of}
use Rattle.release_list.specs.declared.list.Entry.{Entry}
use Rattle.release_list.specs.Listing.{Listing}
use Rattle.release_list.specs.Standing.{Files}
use Rattle.release_list.specs.Steps.{IsGiven, Leaves, Now, Step, Steps, file_ends, last_home, more, none, now_of, pages_beside, pages_go, pages_of_entry, quota_goes, reading_ends, step_pages, tag_page_goes, trim_ends}
use Rattle.release_list.proofs.Lists.{longer}

-- ---- one step

least_beside : (clone : Option CellAt) → 2 ≤ pages_beside clone
least_beside None = omega arith
least_beside (Some clone) = omega arith

least : (o : Option Entry) → 2 ≤ pages_of_entry o
least None = omega arith
least (Some entry) = least_beside entry.clone

most_beside : (clone : Option CellAt) → pages_beside clone ≤ 5
most_beside None = omega arith
most_beside (Some clone) = omega arith

most : (o : Option Entry) → pages_of_entry o ≤ 5
most None = omega arith
most (Some entry) = most_beside entry.clone

pub at_most_five : (list : Listing) → step_pages list ≤ 5
at_most_five list = most (slice_get list.entries (length list.entries - 1))

-- the entry is the one by which they are counted
last_is : (front : List Entry) (entry : Entry) → slice_get (front ++ entry ∷ []) (length (front ++ entry ∷ []) - 1) ≡ Some entry
last_is front entry =
    ap (slice_get (front ++ entry ∷ [])) (let n = longer front entry in omega (arith, n)) ∙ at_length front
  where
    at_length : (xs : List Entry) → slice_get (xs ++ entry ∷ []) (length xs) ≡ Some entry
    at_length [] = refl
    at_length (x ∷ xs) = at_length xs

-- where no clone's file is given no page is handed over
handed_to : (files : Files) (clone : Option CellAt) (reader : Option Reader) (own own_now chain after : List PlacedCell) (old new : Pages) → IsGiven files clone reader own
    → ChangesAtMost 2 old new ⊎ (HandsPage (frozen_of reader) (places_of own) (places_of own_now) (places_of chain) (places_of after) × ChangesAtMost 5 old new) → ChangesAtMost (pages_beside clone) old new
handed_to files None None own own_now chain after old new given few = ⊎_elim (λ two. two) (λ hands. absurd (omega (arith, hands.0.is.is_frozen))) few
handed_to files None (Some reader) own own_now chain after old new given few = absurd given
handed_to files (Some clone) reader own own_now chain after old new given few = ⊎_elim (λ two. at_most 2 5 old new (omega arith) two) (λ hands. hands.1) few

-- a page that leads to none then
unlinked_changes : (front : Option Home) (home : Home) (old new : Pages) → Unlinks front home old new → ChangesAtMost 1 old new
unlinked_changes None home old new same = none_changes 1 old new same
unlinked_changes (Some f) home old new unlinks = ⊎_elim (λ ends. one_changes old new f ends.elsewhere) (λ other. none_changes 1 old new other.same) unlinks

module _ (group : ℕ) (version : Version) (old new : Now) where
  by_few : (few : ℕ) → few ≤ 2 → ChangesAtMost few old.pages new.pages → ChangesAtMost (step_pages old.list) old.pages new.pages
  by_few few less is = at_most few (step_pages old.list) old.pages new.pages (let n = least (slice_get old.list.entries (length old.list.entries - 1)) in omega (arith, n, less)) is

  pub step_changes : Step group version old new → ChangesAtMost (step_pages old.list) old.pages new.pages
  step_changes (pages_go s) =
      let same : step_pages old.list ≡ pages_beside s.entry.clone = ap (λ (es : List Entry). pages_of_entry (slice_get es (length es - 1))) s.last ∙ ap pages_of_entry (last_is s.front s.entry) in
      subst (λ (n : ℕ). ChangesAtMost n old.pages new.pages) (sym same) (handed_to old.files s.entry.clone s.reader s.own s.releases.own_now s.chain s.releases.after old.pages new.pages s.given s.releases.few)
  step_changes (quota_goes s) = by_few 2 (omega arith) s.few
  step_changes (trim_ends s) = by_few 1 (omega arith) s.few
  step_changes (reading_ends s) = by_few 1 (omega arith) s.few
  step_changes (file_ends s) = by_few 1 (omega arith) s.few
  step_changes (tag_page_goes s) = by_few 1 (omega arith) (unlinked_changes (last_home s.takes.front) s.takes.home old.pages new.pages s.takes.unlinks)

-- ---- any number

pub steps_change : (group : ℕ) (version : Version) (first : Now) (count : ℕ) (last : Now) → Steps group version first count last → ChangesAtMost (5 * count) first.pages last.pages
steps_change group version first count last steps =
    elim steps as (λ count last steps. ChangesAtMost (5 * count) first.pages last.pages) [
      | none ↦ none_changes (5 * 0) first.pages first.pages refl
      | more n between last (steps → was) step ↦
          at_most (5 * n + 5) (5 * (n + 1)) first.pages last.pages (omega arith)
          (then_changes (5 * n) 5 first.pages between.pages last.pages was
          (at_most (step_pages between.list) 5 between.pages last.pages (at_most_five between.list) (step_changes group version between last step)))
    ]

-- one more of a call
pub call_changes : (group : ℕ) (version : Version) (list list_now : Listing) (files : Files) (space space_now : Spaces) (cells cells_now : Cells) (first old new : Pages) (changed : ℕ) → Leaves group version (now_of list files space cells old) list_now space_now cells_now new → ChangesAtMost changed first old
    → ChangesAtMost (changed + step_pages list) first new
call_changes group version list list_now files space space_now cells cells_now first old new changed leaves was =
    then_changes changed (step_pages list) first old new was
    (step_changes group version (now_of list files space cells old) (now_of list_now leaves.files space_now cells_now new) leaves.step)
