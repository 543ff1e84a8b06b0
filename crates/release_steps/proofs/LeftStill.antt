-- How many pages a file keeps, and what is left to be done with it, over steps.
use Rattle.std.proofs.Common.{◌≡◌, ◌∙◌, ℕ, List, [], Some, None, Contains, inl, inr, refl, sym, ap, subst, arith, ⊎_elim}
use Rattle.std.specs.Option.{option_and_then}
use Rattle.release_list.specs.domain_base.declared.place.CellAt.{CellAt}
use Rattle.release_list.specs.domain_base.declared.version.Version.{Version}
use Rattle.release_list.specs.cell_records.declared.record.Leftover.TheVariants.{Trim}
use Rattle.release_list.specs.metadata_cells.Chain.{PlacedCell}
use Rattle.release_list.specs.file_chains.FileChanges.{SameFirst}
use Rattle.release_list.specs.fileset_files.Changes.{with_first}
use Rattle.release_list.specs.fileset_files.Files.{first_record, keep_in}
use Rattle.release_list.specs.declared.list.Entry.{Entry}
use Rattle.release_list.specs.Listed.{left_of, leftover_in}
use Rattle.release_list.specs.Listing.{Listing}
use Rattle.release_list.specs.Steps.{EndsTrim, IsWell, Now, Step, Steps, file_ends, more, none, pages_go, quota_goes, reading_ends, says_no_source, says_trimmed, tag_page_goes, trim_ends}
use Rattle.release_list.proofs.Firsts.{first_same}
use Rattle.release_list.proofs.Spread.{Which, none_not, other, reading, some_same, source, which}
use Rattle.release_list.proofs.Standings.{same_or_not}
use Rattle.release_steps.specs.Kept.{KeepsOrIsTrimmed}
use Rattle.release_steps.proofs.AllKept.{sourceless_first, trimmed_keep, trimmed_left}
use Rattle.release_steps.proofs.Ended.{ended_other, file_gone, reading_other, reading_there, same_file, trim_other, trim_there}
use Rattle.release_steps.proofs.Fits.{Fits, trim_maps, well_fits}
use Rattle.release_steps.proofs.DeferredLaws.{fits_step}
use Rattle.release_steps.proofs.Narrower.{in_last, narrower_step}
use Rattle.release_steps.proofs.PagesGo.{at_other, at_source, clone_now, clone_was}
use Rattle.release_steps.proofs.QuotaStep.{chain, quota_beside, quota_is, quota_says}

-- ---- what a step writes in a first cell

by_records : (list : Listing) (a : CellAt) (cells after : List PlacedCell) → first_record 1 after ≡ first_record 1 cells → first_record 6 after ≡ first_record 6 cells → KeepsOrIsTrimmed list a cells after
by_records list a cells after one six = inl (ap (option_and_then keep_in) one, ap (option_and_then leftover_in) six)

by_first : (list : Listing) (a : CellAt) (cells after : List PlacedCell) → SameFirst cells after → KeepsOrIsTrimmed list a cells after
by_first list a cells after same = by_records list a cells after (first_same 1 refl cells after same) (first_same 6 refl cells after same)

-- each entry of a list has the file of one of another
abbrev AreOf : Listing → Listing → Type 0
AreOf first list = (e : Entry) → Contains list.entries e → (was : Entry) × Contains first.entries was × (was.at ≡ e.at)

-- one after the other
then_keeps : (first between : Listing) (a : CellAt) (xs ys zs : List PlacedCell) → AreOf first between → KeepsOrIsTrimmed first a xs ys → KeepsOrIsTrimmed between a ys zs → KeepsOrIsTrimmed first a xs zs
then_keeps first between a xs ys zs are one two = ⊎_elim
    (λ same. ⊎_elim
    (λ again. inl (again.0 ∙ same.0, again.1 ∙ same.1))
    (λ t. let w = are t.entry t.inside in inr (record { entry = w.0; inside = w.1; is = w.2 ∙ t.is; was = sym same.1 ∙ t.was; keeps = t.keeps }))
    two)
    (λ t. inr (record { entry = t.entry; inside = t.inside; is = t.is; was = t.was; keeps = ⊎_elim (λ again. (again.0 ∙ t.keeps.0, again.1 ∙ t.keeps.1)) (λ u. u.keeps) two }))
    one

-- ---- a step

-- the file was there before, and kept this number of pages
record HasKept (old : Now) (a : CellAt) (after : List PlacedCell) : Type 0 where
  cells : List PlacedCell
  is : old.files a ≡ Some cells
  keeps : KeepsOrIsTrimmed old.list a cells after

module _ (group : ℕ) (version : Version) (old new : Now) (fits : Fits old) (a : CellAt) (after : List PlacedCell) (is : new.files a ≡ Some after) where
  as_it_was : new.files a ≡ old.files a → HasKept old a after
  as_it_was same = record { cells = after; is = sym same ∙ is; keeps = inl (refl, refl) }

  by_chain : (cells now : List PlacedCell) → old.files a ≡ Some cells → new.files a ≡ Some now → KeepsOrIsTrimmed old.list a cells now → HasKept old a after
  by_chain cells now was there keeps = record { cells = cells; is = was; keeps = subst (KeepsOrIsTrimmed old.list a cells) (some_same now after (sym there ∙ is)) keeps }

  by_trim : (s : EndsTrim old new) → a ≡ s.entry.at → HasKept old a after
  by_trim s same = by_chain s.chain (with_first says_trimmed s.chain) (ap old.files same ∙ s.is) (ap new.files same ∙ trim_there group version old new fits s)
      (inr (record {
        entry = s.entry;
        inside = in_last old.list s.front s.entry s.last;
        is = sym same;
        was = s.trim;
        keeps = (trimmed_keep s.chain (λ first rest e. (trim_maps old new fits s first rest e).attributes) not_nil, trimmed_left s.chain);
      }))
    where
      not_nil : ¬ s.chain ≡ []
      not_nil empty = let e : Some Trim ≡ None = sym s.trim ∙ ap left_of empty in absurd (cc)

  kept_step : Step group version old new → HasKept old a after
  kept_step (pages_go s) = by_which (which s.entry.at s.entry.clone a)
    where
      by_which : Which s.entry.at s.entry.clone a → HasKept old a after
      by_which (source same) = by_chain s.chain s.releases.after (ap old.files same ∙ s.is) (ap new.files same ∙ at_source group version old new fits s) (by_first old.list a s.chain s.releases.after s.releases.first)
      by_which (reading some) = by_chain s.own s.releases.own_now (clone_was group version old new fits s a some) (clone_now group version old new fits s a some)
          (⊎_elim (λ same. by_records old.list a s.own s.releases.own_now (ap (first_record 1) same) (ap (first_record 6) same)) (λ first. by_first old.list a s.own s.releases.own_now first) s.releases.own_first)
      by_which (other not_at not_it) = as_it_was (at_other group version old new fits s a not_at not_it)
  kept_step (quota_goes s) = ⊎_elim
      (λ same. by_chain (chain group version old new s) s.after (ap old.files same ∙ s.is) (ap new.files same ∙ quota_is group version old new s) (by_first old.list a (chain group version old new s) s.after (quota_says group version old new s)))
      (λ not_at. as_it_was (quota_beside group version old new s a not_at))
      (same_or_not a s.entry.at)
  kept_step (trim_ends s) = ⊎_elim (by_trim s) (λ not_at. as_it_was (trim_other group version old new fits s a not_at)) (same_or_not a s.entry.at)
  kept_step (reading_ends s) = ⊎_elim
      (λ same. by_chain s.own (with_first says_no_source s.own) (ap old.files same ∙ s.own_is) (ap new.files same ∙ reading_there group version old new fits s)
      (by_records old.list a s.own (with_first says_no_source s.own) (sourceless_first 1 (λ e. omega (arith, e)) s.own) (sourceless_first 6 (λ e. omega (arith, e)) s.own)))
      (λ not_at. as_it_was (reading_other group version old new fits s a not_at))
      (same_or_not a s.clone)
  kept_step (file_ends s) = ⊎_elim
      (λ same. absurd (none_not after (sym (ap new.files same ∙ file_gone group version old new fits s) ∙ is)))
      (λ not_at. as_it_was (ended_other group version old new fits s a not_at))
      (same_or_not a s.entry.at)
  kept_step (tag_page_goes s) = as_it_was (same_file group version old new fits s a)

-- ---- any number

record KeptStill (first now : Now) (a : CellAt) : Type 0 where
  fits : Fits now
  are : AreOf first.list now.list
  keeps : (after : List PlacedCell) → now.files a ≡ Some after → HasKept first a after

kept_still : (group : ℕ) (version : Version) (first : Now) (count : ℕ) (last : Now) → IsWell first → Steps group version first count last → (a : CellAt) → KeptStill first last a
kept_still group version first count last well steps a =
    elim steps as (λ count last steps. KeptStill first last a) [
      | none ↦ record { fits = well_fits first well; are = λ e inside. (e, inside, refl); keeps = λ after is. record { cells = after; is = is; keeps = inl (refl, refl) } }
      | more n between last (steps → was) step ↦ record {
        fits = fits_step group version between last was.fits step;
        are = λ e inside.
            let n = narrower_step group version between last step e inside in
            let w = was.are n.was n.inside in
            (w.0, w.1, w.2 ∙ n.at);
        keeps = λ after is.
            let one = kept_step group version between last was.fits a after is step in
            let all = was.keeps one.cells one.is in
            record { cells = all.cells; is = all.is; keeps = then_keeps first.list between.list a all.cells one.cells after was.are all.keeps one.keeps };
      }
    ]

pub left_so : (group : ℕ) (version : Version) (first : Now) (count : ℕ) (last : Now) → IsWell first → Steps group version first count last → (at : CellAt) (after : List PlacedCell) → last.files at ≡ Some after
    → (chain : List PlacedCell) × (first.files at ≡ Some chain) × KeepsOrIsTrimmed first.list at chain after
left_so group version first count last well steps at after is = let it = (kept_still group version first count last well steps at).keeps after is in (it.cells, it.is, it.keeps)
