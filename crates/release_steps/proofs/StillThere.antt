-- A file that does not go as a whole is there after steps, and so is the file of each entry's clone.
use Rattle.std.proofs.Common.{◌≡◌, ◌∙◌, ℕ, List, Some, IsSome, is_some, Contains, sym, ap, ⊎_elim}
use Rattle.release_list.specs.domain_base.declared.place.CellAt.{CellAt}
use Rattle.release_list.specs.domain_base.declared.version.Version.{Version}
use Rattle.release_list.specs.cell_records.declared.record.Leftover.TheVariants.{Trim}
use Rattle.release_list.specs.metadata_cells.Chain.{PlacedCell}
use Rattle.release_list.specs.fileset_files.Changes.{with_first}
use Rattle.release_list.specs.declared.list.Entry.{Entry}
use Rattle.release_list.specs.Listed.{left_of}
use Rattle.release_list.specs.Steps.{EndsReading, EndsTrim, IsLast, IsWell, LetsPages, Now, Step, Steps, file_ends, more, none, pages_go, quota_goes, reading_ends, says_no_source, says_trimmed, tag_page_goes, trim_ends}
use Rattle.release_list.proofs.Lists.{not_last}
use Rattle.release_list.proofs.Spread.{Which, other, reading, some_same, source, which}
use Rattle.release_list.proofs.Standings.{same_or_not}
use Rattle.release_steps.proofs.Ended.{ended_other, reading_other, reading_there, same_file, trim_front, trim_once, trim_other, trim_there}
use Rattle.release_steps.proofs.Fits.{Fits, alone, well_fits}
use Rattle.release_steps.proofs.DeferredLaws.{fits_step}
use Rattle.release_steps.proofs.Narrower.{in_last, inside_by, narrower_step}
use Rattle.release_steps.proofs.PagesGo.{after_left, at_other, at_source, clone_now}
use Rattle.release_steps.proofs.QuotaStep.{not_trimmed, quota_beside}

-- the file is there, and an entry that is its own says that it is trimmed
record IsThere (now : Now) (a : CellAt) : Type 0 where
  after : List PlacedCell
  is : now.files a ≡ Some after
  left : (e : Entry) → Contains now.list.entries e → e.at ≡ a → left_of after ≡ Some Trim

module _ (group : ℕ) (version : Version) (old new : Now) (fits : Fits old) (a : CellAt) (k : IsThere old a) where
  still_there : Step group version old new → new.files a ≡ old.files a → IsThere new a
  still_there step same = record {
    after = k.after;
    is = same ∙ k.is;
    left = λ e inside at. let n = narrower_step group version old new step e inside in k.left n.was n.inside (n.at ∙ at);
  }

  -- the last entry gives the file as its clone's, so no entry is of it
  clone_there : Step group version old new → (front : List Entry) (entry : Entry) → IsLast front entry old.list → entry.clone ≡ Some a → (after : List PlacedCell) → new.files a ≡ Some after → IsThere new a
  clone_there step front entry last some after is = record {
    after = after;
    is = is;
    left = λ e inside at. let n = narrower_step group version old new step e inside in absurd (alone old fits front entry last n.was n.inside (some ∙ ap Some (sym (n.at ∙ at))));
  }

  -- the last entry's file is this one
  it_was : (entry : Entry) (chain : List PlacedCell) → old.files entry.at ≡ Some chain → a ≡ entry.at → chain ≡ k.after
  it_was entry chain is same = some_same chain k.after (sym is ∙ sym (ap old.files same) ∙ k.is)

  lets_there : LetsPages group version old new → IsThere new a
  lets_there s = by_which (which s.entry.at s.entry.clone a)
    where
      by_which : Which s.entry.at s.entry.clone a → IsThere new a
      by_which (source same) = record {
        after = s.releases.after;
        is = ap new.files same ∙ at_source group version old new fits s;
        left = λ e inside at.
            after_left group version old new fits s ∙ ap left_of (it_was s.entry s.chain s.is same) ∙ k.left e (inside_by old.list new.list e s.same_list inside) at;
      }
      by_which (reading some) = clone_there (pages_go s) s.front s.entry s.last some s.releases.own_now (clone_now group version old new fits s a some)
      by_which (other not_at not_it) = still_there (pages_go s) (at_other group version old new fits s a not_at not_it)

  trim_is_there : EndsTrim old new → IsThere new a
  trim_is_there s = ⊎_elim
      (λ same. record {
        after = with_first says_trimmed s.chain;
        is = ap new.files same ∙ trim_there group version old new fits s;
        left = λ e inside at. absurd (not_last s.front s.entry e (trim_once group version old new fits s) (trim_front group version old new fits s e inside) (at ∙ same));
      })
      (λ not_at. still_there (trim_ends s) (trim_other group version old new fits s a not_at))
      (same_or_not a s.entry.at)

  reading_is_there : EndsReading old new → IsThere new a
  reading_is_there s = ⊎_elim
      (λ same. clone_there (reading_ends s) s.front s.entry s.last (s.given ∙ ap Some (sym same)) (with_first says_no_source s.own) (ap new.files same ∙ reading_there group version old new fits s))
      (λ not_at. still_there (reading_ends s) (reading_other group version old new fits s a not_at))
      (same_or_not a s.clone)

  there_step : Step group version old new → IsThere new a
  there_step (pages_go s) = lets_there s
  there_step (quota_goes s) = still_there (quota_goes s)
      (quota_beside group version old new s a (λ same. not_trimmed group version old new s k.after (sym (ap old.files same) ∙ k.is) (k.left s.entry (in_last old.list s.front s.entry s.last) (sym same))))
  there_step (trim_ends s) = trim_is_there s
  there_step (reading_ends s) = reading_is_there s
  there_step (file_ends s) = still_there (file_ends s)
      (ended_other group version old new fits s a (λ same. s.whole (ap left_of (it_was s.entry s.chain s.is same) ∙ k.left s.entry (in_last old.list s.front s.entry s.last) (sym same))))
  there_step (tag_page_goes s) = still_there (tag_page_goes s) (same_file group version old new fits s a)

record ThereStill (now : Now) (a : CellAt) : Type 0 where
  fits : Fits now
  there : IsThere now a

there_still : (group : ℕ) (version : Version) (first : Now) (count : ℕ) (last : Now) → IsWell first → Steps group version first count last
    → (a : CellAt) (chain : List PlacedCell) → first.files a ≡ Some chain → ((e : Entry) → Contains first.list.entries e → e.at ≡ a → left_of chain ≡ Some Trim) → ThereStill last a
there_still group version first count last well steps a chain is left =
    elim steps as (λ count last steps. ThereStill last a) [
      | none ↦ record { fits = well_fits first well; there = record { after = chain; is = is; left = left } }
      | more n between last (steps → was) step ↦ record {
        fits = fits_step group version between last was.fits step;
        there = there_step group version between last was.fits a was.there step;
      }
    ]

pub files_stay : (group : ℕ) (version : Version) (first : Now) (count : ℕ) (last : Now) → IsWell first → Steps group version first count last
    → (a : CellAt) (chain : List PlacedCell) → first.files a ≡ Some chain → ((e : Entry) → Contains first.list.entries e → e.at ≡ a → left_of chain ≡ Some Trim) → IsSome (last.files a)
files_stay group version first count last well steps a chain is left =
    ap is_some (there_still group version first count last well steps a chain is left).there.is
