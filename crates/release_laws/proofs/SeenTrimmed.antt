-- What a file keeps of its pages stands where it stood, over steps in which it is trimmed.
use Rattle.std.proofs.Common.{◌≡◌, ◌∙◌, ◌⊎◌, inl, inr, ℕ, ◌≤◌, List, Some, None, Contains, sym, ap, subst, ⊎_elim}
use Rattle.standing_laws.specs.domain_base.declared.place.CellAt.{CellAt}
use Rattle.standing_laws.specs.domain_base.declared.version.Version.{Version}
use Rattle.standing_laws.specs.cell_records.declared.record.Leftover.TheVariants.{Trim}
use Rattle.standing_laws.specs.metadata_cells.Chain.{PlacedCell}
use Rattle.standing_laws.specs.extent_maps.declared.run.PagePlace.TheVariants.{Absent}
use Rattle.standing_laws.specs.file_chains.Files.{places_of}
use Rattle.standing_laws.specs.fileset_files.Changes.{with_first}
use Rattle.standing_laws.specs.release_list.declared.list.Entry.{Entry}
use Rattle.standing_laws.specs.release_list.Listed.{left_of, stale_from}
use Rattle.standing_laws.specs.release_list.Steps.{EndsTrim, IsLast, IsWell, LetsPages, Now, Step, Steps, file_ends, more, none, pages_go, quota_goes, reading_ends, says_trimmed, tag_page_goes, trim_ends}
use Rattle.standing_laws.proofs.OfReleaseList.Lists.{not_last}
use Rattle.standing_laws.proofs.OfReleaseList.Spread.{Which, none_not, other, reading, some_same, source, which}
use Rattle.standing_laws.proofs.OfReleaseList.Standings.{same_or_not}
use Rattle.standing_laws.proofs.OfReleaseSteps.AllKept.{trimmed_left}
use Rattle.standing_laws.proofs.OfReleaseSteps.Ended.{ended_other, same_file, trim_front, trim_once, trim_other, trim_there}
use Rattle.standing_laws.proofs.OfReleaseSteps.FirstCells.{first_places, trimmed_keeps}
use Rattle.standing_laws.proofs.OfReleaseSteps.Fits.{Fits, trim_maps, well_fits}
use Rattle.standing_laws.proofs.OfReleaseSteps.DeferredLaws.{fits_step}
use Rattle.standing_laws.proofs.OfReleaseSteps.Narrower.{in_last, narrower_step}
use Rattle.standing_laws.proofs.OfReleaseSteps.PagesGo.{after_left, after_stale, at_other, at_source}
use Rattle.standing_laws.proofs.OfReleaseSteps.QuotaStep.{not_trimmed, quota_beside}

-- no entry gives a clone's file
abbrev pub GiveNone : Now → Type 0
GiveNone now = (e : Entry) → Contains now.list.entries e → e.clone ≡ None

-- a file is trimmed from a page on
pub record IsTrimming (from : ℕ) (now : Now) (a : CellAt) : Type 0 where
  pub after : List PlacedCell
  pub is : now.files a ≡ Some after
  pub left : left_of after ≡ Some Trim
  pub stale : stale_from after ≡ from

-- or it was, nothing is left to be done, it has no page from there on, and no entry is its
pub record IsCut (from : ℕ) (now : Now) (a : CellAt) : Type 0 where
  pub after : List PlacedCell
  pub is : now.files a ≡ Some after
  pub left : left_of after ≡ None
  pub absent : (p : ℕ) → from ≤ p → places_of after p ≡ Absent
  pub no_entry : (e : Entry) → Contains now.list.entries e → ¬ e.at ≡ a

module _ (group : ℕ) (version : Version) (old new : Now) (fits : Fits old) (from : ℕ) (a : CellAt) (alone : GiveNone old) where
  pub alone_step : Step group version old new → GiveNone new
  alone_step step e inside =
      let n = narrower_step group version old new step e inside in
      ⊎_elim (λ kept. kept ∙ alone n.was n.inside) (λ gone. gone) n.clone

  gives_none : (front : List Entry) (entry : Entry) → IsLast front entry old.list → (b : CellAt) → ¬ entry.clone ≡ Some b
  gives_none front entry last b some = none_not b (sym (alone entry (in_last old.list front entry last)) ∙ some)

  module _ (k : IsTrimming from old a) where
    trimming_still : new.files a ≡ old.files a → IsTrimming from new a
    trimming_still same = record { after = k.after; is = same ∙ k.is; left = k.left; stale = k.stale }

    lets_trimming : LetsPages group version old new → IsTrimming from new a
    lets_trimming s = by_which (which s.entry.at s.entry.clone a)
      where
        by_which : Which s.entry.at s.entry.clone a → IsTrimming from new a
        by_which (source same) =
            let was : s.chain ≡ k.after = some_same s.chain k.after (sym s.is ∙ sym (ap old.files same) ∙ k.is) in
            record {
              after = s.releases.after;
              is = ap new.files same ∙ at_source group version old new fits s;
              left = after_left group version old new fits s ∙ ap left_of was ∙ k.left;
              stale = after_stale group version old new fits s ∙ ap stale_from was ∙ k.stale;
            }
        by_which (reading some) = absurd (gives_none s.front s.entry s.last a some)
        by_which (other not_at not_it) = trimming_still (at_other group version old new fits s a not_at not_it)

    trim_cut : EndsTrim old new → IsTrimming from new a ⊎ IsCut from new a
    trim_cut s = ⊎_elim
        (λ same.
        let was : s.chain ≡ k.after = some_same s.chain k.after (sym s.is ∙ sym (ap old.files same) ∙ k.is) in
        inr (record {
          after = with_first says_trimmed s.chain;
          is = ap new.files same ∙ trim_there group version old new fits s;
          left = trimmed_left s.chain;
          absent = λ p behind.
              first_places says_trimmed trimmed_keeps old new fits s.entry.at s.chain s.is (trim_maps old new fits s) s.files p
              ∙ s.done.absent p (subst (λ (n : ℕ). n ≤ p) (sym (ap stale_from was ∙ k.stale)) behind);
          no_entry = λ e inside at. not_last s.front s.entry e (trim_once group version old new fits s) (trim_front group version old new fits s e inside) (at ∙ same);
        }))
        (λ not_at. inl (trimming_still (trim_other group version old new fits s a not_at)))
        (same_or_not a s.entry.at)

    pub trimming_step : Step group version old new → IsTrimming from new a ⊎ IsCut from new a
    trimming_step (pages_go s) = inl (lets_trimming s)
    trimming_step (quota_goes s) = inl (trimming_still (quota_beside group version old new s a (λ same. not_trimmed group version old new s k.after (sym (ap old.files same) ∙ k.is) k.left)))
    trimming_step (trim_ends s) = trim_cut s
    trimming_step (reading_ends s) = absurd (gives_none s.front s.entry s.last s.clone s.given)
    trimming_step (file_ends s) =
        inl (trimming_still (ended_other group version old new fits s a (λ same.
        let was : s.chain ≡ k.after = some_same s.chain k.after (sym s.is ∙ sym (ap old.files same) ∙ k.is) in
        s.whole (ap left_of was ∙ k.left))))
    trimming_step (tag_page_goes s) = inl (trimming_still (same_file group version old new fits s a))

  module _ (k : IsCut from old a) where
    cut_still : Step group version old new → new.files a ≡ old.files a → IsCut from new a
    cut_still step same = record {
      after = k.after;
      is = same ∙ k.is;
      left = k.left;
      absent = k.absent;
      no_entry = λ e inside at. let n = narrower_step group version old new step e inside in k.no_entry n.was n.inside (n.at ∙ at);
    }

    not_its : (front : List Entry) (entry : Entry) → IsLast front entry old.list → ¬ a ≡ entry.at
    not_its front entry last same = k.no_entry entry (in_last old.list front entry last) (sym same)

    pub cut_step : Step group version old new → IsCut from new a
    cut_step (pages_go s) = cut_still (pages_go s) (at_other group version old new fits s a (not_its s.front s.entry s.last) (gives_none s.front s.entry s.last a))
    cut_step (quota_goes s) = cut_still (quota_goes s) (quota_beside group version old new s a (not_its s.front s.entry s.last))
    cut_step (trim_ends s) = cut_still (trim_ends s) (trim_other group version old new fits s a (not_its s.front s.entry s.last))
    cut_step (reading_ends s) = absurd (gives_none s.front s.entry s.last s.clone s.given)
    cut_step (file_ends s) = cut_still (file_ends s) (ended_other group version old new fits s a (not_its s.front s.entry s.last))
    cut_step (tag_page_goes s) = cut_still (tag_page_goes s) (same_file group version old new fits s a)

record IsTrimOver (from : ℕ) (now : Now) (a : CellAt) : Type 0 where
  fits : Fits now
  alone : GiveNone now
  state : IsTrimming from now a ⊎ IsCut from now a

trim_over : (group : ℕ) (version : Version) (first : Now) (count : ℕ) (last : Now) → IsWell first → Steps group version first count last → GiveNone first → (from : ℕ) (a : CellAt) → IsTrimming from first a → IsTrimOver from last a
trim_over group version first count last well steps alone from a k =
    elim steps as (λ count last steps. IsTrimOver from last a) [
      | none ↦ record { fits = well_fits first well; alone = alone; state = inl k }
      | more n between last (steps → was) step ↦ record {
        fits = fits_step group version between last was.fits step;
        alone = alone_step group version between last was.fits from a was.alone step;
        state = ⊎_elim
            (λ k. trimming_step group version between last was.fits from a was.alone k step)
            (λ k. inr (cut_step group version between last was.fits from a was.alone k step))
            was.state;
      }
    ]

-- a file that is to be trimmed is so still, or it is cut
pub trimmed_or_cut : (group : ℕ) (version : Version) (first : Now) (count : ℕ) (last : Now) → IsWell first → Steps group version first count last → GiveNone first → (from : ℕ) (a : CellAt) → IsTrimming from first a → IsTrimming from last a ⊎ IsCut from last a
trimmed_or_cut group version first count last well steps alone from a k = (trim_over group version first count last well steps alone from a k).state
