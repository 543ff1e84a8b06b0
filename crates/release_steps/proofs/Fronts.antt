-- A file that is trimmed keeps its pages before those that go.
use Rattle.std.proofs.Common.{◌≡◌, ◌∙◌, ℕ, ◌<◌, List, Some, Contains, refl, sym, ap, subst, ⊎_elim}
use Rattle.release_list.specs.domain_base.declared.place.CellAt.{CellAt}
use Rattle.release_list.specs.domain_base.declared.version.Version.{Version}
use Rattle.release_list.specs.cell_records.declared.record.Leftover.TheVariants.{Trim}
use Rattle.release_list.specs.metadata_cells.Chain.{PlacedCell}
use Rattle.release_list.specs.file_chains.Files.{places_of}
use Rattle.release_list.specs.fileset_files.Changes.{with_first}
use Rattle.release_list.specs.declared.list.Entry.{Entry}
use Rattle.release_list.specs.Listed.{left_of, stale_from}
use Rattle.release_list.specs.Steps.{EndsFile, EndsReading, EndsTrim, IsWell, LetsPages, Now, Step, Steps, file_ends, more, none, pages_go, quota_goes, reading_ends, says_trimmed, tag_page_goes, trim_ends}
use Rattle.release_list.proofs.Lists.{not_last}
use Rattle.release_list.proofs.Spread.{Which, none_not, other, reading, some_same, source, which}
use Rattle.release_list.proofs.Standings.{same_or_not}
use Rattle.release_steps.specs.Kept.{KeepsFront}
use Rattle.release_steps.proofs.Ended.{ended_other, reading_other, same_file, trim_front, trim_once, trim_other, trim_there}
use Rattle.release_steps.proofs.FirstCells.{first_places, trimmed_keeps}
use Rattle.release_steps.proofs.Fits.{Fits, trim_maps, well_fits}
use Rattle.release_steps.proofs.DeferredLaws.{fits_step}
use Rattle.release_steps.proofs.Narrower.{in_last, inside_by, narrower_step}
use Rattle.release_steps.proofs.PagesGo.{after_left, after_stale, at_other, at_source}
use Rattle.release_steps.proofs.QuotaStep.{not_trimmed, quota_beside}

-- the file is there with those pages, no entry gives it as a clone's, and one that is its own says
-- that it is trimmed, from the same page on
pub record IsTrimmed (from : ℕ) (chain : List PlacedCell) (now : Now) (a : CellAt) : Type 0 where
  pub after : List PlacedCell
  pub is : now.files a ≡ Some after
  pub places : (p : ℕ) → p < from → places_of after p ≡ places_of chain p
  pub no_clone : (e : Entry) → Contains now.list.entries e → ¬ e.clone ≡ Some a
  pub left : (e : Entry) → Contains now.list.entries e → e.at ≡ a → (left_of after ≡ Some Trim) × (stale_from after ≡ from)

module _ (group : ℕ) (version : Version) (old new : Now) (from : ℕ) (chain : List PlacedCell) (a : CellAt) (k : IsTrimmed from chain old a) where
  no_clone_now : Step group version old new → (e : Entry) → Contains new.list.entries e → ¬ e.clone ≡ Some a
  no_clone_now step e inside some =
      let n = narrower_step group version old new step e inside in
      ⊎_elim (λ kept. k.no_clone n.was n.inside (sym kept ∙ some)) (λ gone. none_not a (sym gone ∙ some)) n.clone

  still_trimmed : Step group version old new → new.files a ≡ old.files a → IsTrimmed from chain new a
  still_trimmed step same = record {
    after = k.after;
    is = same ∙ k.is;
    places = k.places;
    no_clone = no_clone_now step;
    left = λ e inside at.
        let n = narrower_step group version old new step e inside in
        let was = k.left n.was n.inside (n.at ∙ at) in
        (was.0, was.1);
  }

  module _ (fits : Fits old) where
    lets_trimmed : LetsPages group version old new → IsTrimmed from chain new a
    lets_trimmed s = by_which (which s.entry.at s.entry.clone a)
      where
        entry_in : Contains old.list.entries s.entry
        entry_in = in_last old.list s.front s.entry s.last

        by_which : Which s.entry.at s.entry.clone a → IsTrimmed from chain new a
        by_which (source same) =
            let was : s.chain ≡ k.after = some_same s.chain k.after (sym s.is ∙ sym (ap old.files same) ∙ k.is) in
            let left = k.left s.entry entry_in (sym same) in
            let same_from : stale_from s.chain ≡ from = ap stale_from was ∙ left.1 in
            record {
              after = s.releases.after;
              is = ap new.files same ∙ at_source group version old new fits s;
              places = λ p less. s.releases.pages.kept p (subst (λ (n : ℕ). p < n) (sym same_from) less) ∙ ap (λ (cs : List PlacedCell). places_of cs p) was ∙ k.places p less;
              no_clone = no_clone_now (pages_go s);
              left = λ e inside at.
                  let of_e = k.left e (inside_by old.list new.list e s.same_list inside) at in
                  (after_left group version old new fits s ∙ ap left_of was ∙ of_e.0, after_stale group version old new fits s ∙ ap stale_from was ∙ of_e.1);
            }
        by_which (reading some) = absurd (k.no_clone s.entry entry_in some)
        by_which (other not_at not_it) = still_trimmed (pages_go s) (at_other group version old new fits s a not_at not_it)

    trim_trimmed : EndsTrim old new → IsTrimmed from chain new a
    trim_trimmed s = ⊎_elim
        (λ same.
        let was : s.chain ≡ k.after = some_same s.chain k.after (sym s.is ∙ sym (ap old.files same) ∙ k.is) in
        record {
          after = with_first says_trimmed s.chain;
          is = ap new.files same ∙ trim_there group version old new fits s;
          places = λ p less. first_places says_trimmed trimmed_keeps old new fits s.entry.at s.chain s.is (trim_maps old new fits s) s.files p ∙ ap (λ (cs : List PlacedCell). places_of cs p) was ∙ k.places p less;
          no_clone = no_clone_now (trim_ends s);
          left = λ e inside at. absurd (not_last s.front s.entry e (trim_once group version old new fits s) (trim_front group version old new fits s e inside) (at ∙ same));
        })
        (λ not_at. still_trimmed (trim_ends s) (trim_other group version old new fits s a not_at))
        (same_or_not a s.entry.at)

    reading_trimmed : EndsReading old new → IsTrimmed from chain new a
    reading_trimmed s = still_trimmed (reading_ends s)
        (reading_other group version old new fits s a (λ same. k.no_clone s.entry (in_last old.list s.front s.entry s.last) (s.given ∙ ap Some (sym same))))

    file_trimmed : EndsFile old new → IsTrimmed from chain new a
    file_trimmed s = still_trimmed (file_ends s)
        (ended_other group version old new fits s a (λ same.
        let was : s.chain ≡ k.after = some_same s.chain k.after (sym s.is ∙ sym (ap old.files same) ∙ k.is) in
        s.whole (ap left_of was ∙ (k.left s.entry (in_last old.list s.front s.entry s.last) (sym same)).0)))

    pub trimmed_step : Step group version old new → IsTrimmed from chain new a
    trimmed_step (pages_go s) = lets_trimmed s
    trimmed_step (quota_goes s) = still_trimmed (quota_goes s)
        (quota_beside group version old new s a (λ same. not_trimmed group version old new s k.after (sym (ap old.files same) ∙ k.is) (k.left s.entry (in_last old.list s.front s.entry s.last) (sym same)).0))
    trimmed_step (trim_ends s) = trim_trimmed s
    trimmed_step (reading_ends s) = reading_trimmed s
    trimmed_step (file_ends s) = file_trimmed s
    trimmed_step (tag_page_goes s) = still_trimmed (tag_page_goes s) (same_file group version old new fits s a)

record TrimmedStill (from : ℕ) (chain : List PlacedCell) (now : Now) (a : CellAt) : Type 0 where
  fits : Fits now
  trimmed : IsTrimmed from chain now a

trimmed_still : (group : ℕ) (version : Version) (first : Now) (count : ℕ) (last : Now) → IsWell first → Steps group version first count last
    → (entry : Entry) → Contains first.list.entries entry → ((e : Entry) → Contains first.list.entries e → ¬ e.clone ≡ Some entry.at) → (chain : List PlacedCell) → first.files entry.at ≡ Some chain → left_of chain ≡ Some Trim → TrimmedStill (stale_from chain) chain last entry.at
trimmed_still group version first count last well steps entry inside no_clone chain is left =
    elim steps as (λ count last steps. TrimmedStill (stale_from chain) chain last entry.at) [
      | none ↦ record {
        fits = well_fits first well;
        trimmed = record {
          after = chain;
          is = is;
          places = λ p less. refl;
          no_clone = no_clone;
          left = λ e in_e at. (left, refl);
        };
      }
      | more n between last (steps → was) step ↦ record {
        fits = fits_step group version between last was.fits step;
        trimmed = trimmed_step group version between last (stale_from chain) chain entry.at was.trimmed was.fits step;
      }
    ]

pub fronts_stay : (group : ℕ) (version : Version) (first : Now) (count : ℕ) (last : Now) → IsWell first → Steps group version first count last
    → (entry : Entry) → Contains first.list.entries entry → ((e : Entry) → Contains first.list.entries e → ¬ e.clone ≡ Some entry.at) → (chain : List PlacedCell) → first.files entry.at ≡ Some chain → left_of chain ≡ Some Trim → KeepsFront chain (last.files entry.at)
fronts_stay group version first count last well steps entry inside no_clone chain is left =
    let k = (trimmed_still group version first count last well steps entry inside no_clone chain is left).trimmed in
    subst (KeepsFront chain) (sym k.is) k.places
