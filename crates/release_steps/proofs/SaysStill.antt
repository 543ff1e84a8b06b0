-- What first cells say of their files stays over steps.
use Rattle.std.proofs.Common.{◌≡◌, ◌∙◌, ℕ, nat_le, List, [], ◌∷◌, Option, Some, None, refl, sym, ap, subst, arith, ⊎_elim}
use Rattle.std.specs.Option.{option_and_then, option_map}
use Rattle.release_list.specs.domain_base.declared.place.CellAt.{CellAt}
use Rattle.release_list.specs.domain_base.declared.version.Version.{Version}
use Rattle.release_list.specs.cell_records.declared.record.Record.{Record}
use Rattle.release_list.specs.cell_records.declared.record.Record.TheVariants as written
use Rattle.release_list.specs.metadata_cells.Cell.{record_of}
use Rattle.release_list.specs.metadata_cells.Chain.{PlacedCell}
use Rattle.release_list.specs.file_chains.FileChanges.{SameFirst}
use Rattle.release_list.specs.fileset_files.Changes.{with_first}
use Rattle.release_list.specs.fileset_files.Files.{attributes_in}
use Rattle.release_list.specs.Steps.{IsWell, Now, Step, Steps, file_ends, kept_all, more, none, pages_go, quota_goes, reading_ends, says_no_source, says_trimmed, tag_page_goes, trim_ends, without_source}
use Rattle.release_list.proofs.Firsts.{first_same}
use Rattle.release_list.proofs.Records.{sourceless_other, sourceless_there, trimmed_other}
use Rattle.release_list.proofs.Spread.{Which, none_not, other, reading, some_same, source, which}
use Rattle.release_list.proofs.Standings.{same_or_not}
use Rattle.release_steps.specs.Kept.{SaysTheSame}
use Rattle.release_steps.proofs.AllKept.{trimmed_first}
use Rattle.release_steps.proofs.Ended.{ended_other, file_gone, reading_other, reading_there, same_file, trim_other, trim_there}
use Rattle.release_steps.proofs.Fits.{Fits, well_fits}
use Rattle.release_steps.proofs.DeferredLaws.{fits_step}
use Rattle.release_steps.proofs.PagesGo.{at_other, at_source, clone_now, clone_was}
use Rattle.release_steps.proofs.Said.{says_alone, says_first, says_trim}
use Rattle.release_steps.proofs.QuotaStep.{chain, quota_beside, quota_is, quota_says}

-- ---- records that are written twice

kept_twice : (r : Record) → kept_all (kept_all r) ≡ kept_all r
kept_twice (written.Attributes kind uid gid flags size keep links birth unsynced) = refl
kept_twice (written.CloneFile vol cell page frozen) = refl
kept_twice (written.Extents rows) = refl
kept_twice (written.ShortExtents rows) = refl
kept_twice (written.Holes rows) = refl
kept_twice (written.Pending what) = refl
kept_twice (written.UserQuota id files blocks) = refl
kept_twice (written.GroupQuota id files blocks) = refl
kept_twice (written.DirIndex vol page entries) = refl
kept_twice (written.Parent slot seq) = refl
kept_twice (written.Stripe width mark vols) = refl
kept_twice (written.Volume vol pages bitmap_pages) = refl
kept_twice (written.DenseExtents rows) = refl
kept_twice (written.ShortDense rows) = refl

attributes_kept : (r : Record) → attributes_in (kept_all r) ≡ attributes_in r
attributes_kept (written.Attributes kind uid gid flags size keep links birth unsynced) = refl
attributes_kept (written.CloneFile vol cell page frozen) = refl
attributes_kept (written.Extents rows) = refl
attributes_kept (written.ShortExtents rows) = refl
attributes_kept (written.Holes rows) = refl
attributes_kept (written.Pending what) = refl
attributes_kept (written.UserQuota id files blocks) = refl
attributes_kept (written.GroupQuota id files blocks) = refl
attributes_kept (written.DirIndex vol page entries) = refl
attributes_kept (written.Parent slot seq) = refl
attributes_kept (written.Stripe width mark vols) = refl
attributes_kept (written.Volume vol pages bitmap_pages) = refl
attributes_kept (written.DenseExtents rows) = refl
attributes_kept (written.ShortDense rows) = refl

without_twice : (r : Record) → without_source (without_source r) ≡ without_source r
without_twice (written.Attributes kind uid gid flags size keep links birth unsynced) = refl
without_twice (written.CloneFile vol cell page frozen) = refl
without_twice (written.Extents rows) = refl
without_twice (written.ShortExtents rows) = refl
without_twice (written.Holes rows) = refl
without_twice (written.Pending what) = refl
without_twice (written.UserQuota id files blocks) = refl
without_twice (written.GroupQuota id files blocks) = refl
without_twice (written.DirIndex vol page entries) = refl
without_twice (written.Parent slot seq) = refl
without_twice (written.Stripe width mark vols) = refl
without_twice (written.Volume vol pages bitmap_pages) = refl
without_twice (written.DenseExtents rows) = refl
without_twice (written.ShortDense rows) = refl

map_twice : (change : Record → Record) → ((r : Record) → change (change r) ≡ change r) → (o : Option Record) → option_map change (option_map change o) ≡ option_map change o
map_twice change twice None = refl
map_twice change twice (Some r) = ap Some (twice r)

what_kept : (o : Option Record) → option_and_then attributes_in (option_map kept_all o) ≡ option_and_then attributes_in o
what_kept None = refl
what_kept (Some r) = attributes_kept r

-- ---- what a step writes in a first cell

itself : (cells : List PlacedCell) → SaysTheSame cells cells
itself cells = record { start = refl; what = refl; born = refl; frozen = refl; others = λ k a b c no_map. refl }

by_first : (cells after : List PlacedCell) → SameFirst cells after → SaysTheSame cells after
by_first cells after same = record {
  start = (says_first cells after same).start;
  what = ap (option_and_then attributes_in) (first_same 1 refl cells after same);
  born = ap (option_map kept_all) (first_same 1 refl cells after same);
  frozen = ap (option_map without_source) (first_same 2 refl cells after same);
  others = λ k a b c no_map. first_same k (ap (nat_le 1) no_map) cells after same;
}

by_trim : (cells : List PlacedCell) → SaysTheSame cells (with_first says_trimmed cells)
by_trim [] = itself []
by_trim (first ∷ rest) = record {
  start = (says_trim (first ∷ rest)).start;
  what = ap (option_and_then attributes_in) (trimmed_first first.cell) ∙ what_kept (record_of 1 first.cell.records);
  born = ap (option_map kept_all) (trimmed_first first.cell) ∙ map_twice kept_all kept_twice (record_of 1 first.cell.records);
  frozen = ap (option_map without_source) (trimmed_other first.cell 2 (λ e. omega (arith, e)) (λ e. omega (arith, e)));
  others = λ k a b c no_map. trimmed_other first.cell k a c;
}

by_alone : (cells : List PlacedCell) → SaysTheSame cells (with_first says_no_source cells)
by_alone [] = itself []
by_alone (first ∷ rest) = record {
  start = (says_alone (first ∷ rest)).start;
  what = ap (option_and_then attributes_in) (sourceless_other first.cell 1 (λ e. omega (arith, e)));
  born = ap (option_map kept_all) (sourceless_other first.cell 1 (λ e. omega (arith, e)));
  frozen = ap (option_map without_source) (sourceless_there first.cell) ∙ map_twice without_source without_twice (record_of 2 first.cell.records);
  others = λ k a b c no_map. sourceless_other first.cell k b;
}

then_same : (xs ys zs : List PlacedCell) → SaysTheSame xs ys → SaysTheSame ys zs → SaysTheSame xs zs
then_same xs ys zs one two = record {
  start = two.start ∙ one.start;
  what = two.what ∙ one.what;
  born = two.born ∙ one.born;
  frozen = two.frozen ∙ one.frozen;
  others = λ k a b c no_map. two.others k a b c no_map ∙ one.others k a b c no_map;
}

-- ---- a step

-- the file was there before, and said the same
record HasSaid (old : Now) (a : CellAt) (after : List PlacedCell) : Type 0 where
  cells : List PlacedCell
  is : old.files a ≡ Some cells
  says : SaysTheSame cells after

module _ (group : ℕ) (version : Version) (old new : Now) (fits : Fits old) (a : CellAt) (after : List PlacedCell) (is : new.files a ≡ Some after) where
  as_it_was : new.files a ≡ old.files a → HasSaid old a after
  as_it_was same = record { cells = after; is = sym same ∙ is; says = itself after }

  by_chain : (cells now : List PlacedCell) → old.files a ≡ Some cells → new.files a ≡ Some now → SaysTheSame cells now → HasSaid old a after
  by_chain cells now was there says = record { cells = cells; is = was; says = subst (SaysTheSame cells) (some_same now after (sym there ∙ is)) says }

  said_step : Step group version old new → HasSaid old a after
  said_step (pages_go s) = by_which (which s.entry.at s.entry.clone a)
    where
      by_which : Which s.entry.at s.entry.clone a → HasSaid old a after
      by_which (source same) = by_chain s.chain s.releases.after (ap old.files same ∙ s.is) (ap new.files same ∙ at_source group version old new fits s) (by_first s.chain s.releases.after s.releases.first)
      by_which (reading some) = by_chain s.own s.releases.own_now (clone_was group version old new fits s a some) (clone_now group version old new fits s a some)
          (⊎_elim (λ same. subst (SaysTheSame s.own) (sym same) (itself s.own)) (λ first. by_first s.own s.releases.own_now first) s.releases.own_first)
      by_which (other not_at not_it) = as_it_was (at_other group version old new fits s a not_at not_it)
  said_step (quota_goes s) = ⊎_elim
      (λ same. by_chain (chain group version old new s) s.after (ap old.files same ∙ s.is) (ap new.files same ∙ quota_is group version old new s) (by_first (chain group version old new s) s.after (quota_says group version old new s)))
      (λ not_at. as_it_was (quota_beside group version old new s a not_at))
      (same_or_not a s.entry.at)
  said_step (trim_ends s) = ⊎_elim
      (λ same. by_chain s.chain (with_first says_trimmed s.chain) (ap old.files same ∙ s.is) (ap new.files same ∙ trim_there group version old new fits s) (by_trim s.chain))
      (λ not_at. as_it_was (trim_other group version old new fits s a not_at))
      (same_or_not a s.entry.at)
  said_step (reading_ends s) = ⊎_elim
      (λ same. by_chain s.own (with_first says_no_source s.own) (ap old.files same ∙ s.own_is) (ap new.files same ∙ reading_there group version old new fits s) (by_alone s.own))
      (λ not_at. as_it_was (reading_other group version old new fits s a not_at))
      (same_or_not a s.clone)
  said_step (file_ends s) = ⊎_elim
      (λ same. absurd (none_not after (sym (ap new.files same ∙ file_gone group version old new fits s) ∙ is)))
      (λ not_at. as_it_was (ended_other group version old new fits s a not_at))
      (same_or_not a s.entry.at)
  said_step (tag_page_goes s) = as_it_was (same_file group version old new fits s a)

-- ---- any number

record SaidStill (first now : Now) (a : CellAt) : Type 0 where
  fits : Fits now
  says : (after : List PlacedCell) → now.files a ≡ Some after → HasSaid first a after

said_still : (group : ℕ) (version : Version) (first : Now) (count : ℕ) (last : Now) → IsWell first → Steps group version first count last → (a : CellAt) → SaidStill first last a
said_still group version first count last well steps a =
    elim steps as (λ count last steps. SaidStill first last a) [
      | none ↦ record { fits = well_fits first well; says = λ after is. record { cells = after; is = is; says = itself after } }
      | more n between last (steps → was) step ↦ record {
        fits = fits_step group version between last was.fits step;
        says = λ after is.
            let one = said_step group version between last was.fits a after is step in
            let all = was.says one.cells one.is in
            record { cells = all.cells; is = all.is; says = then_same all.cells one.cells after all.says one.says };
      }
    ]

pub said_so : (group : ℕ) (version : Version) (first : Now) (count : ℕ) (last : Now) → IsWell first → Steps group version first count last → (at : CellAt) (after : List PlacedCell) → last.files at ≡ Some after
    → (chain : List PlacedCell) × (first.files at ≡ Some chain) × SaysTheSame chain after
said_so group version first count last well steps at after is = let it = (said_still group version first count last well steps at).says after is in (it.cells, it.is, it.says)
