-- What a set of files shows stays over steps.
use Rattle.std.proofs.Common.{◌≡◌, ◌∙◌, ℕ, List, [], ◌∷◌, Option, Some, None, IsSomeAnd, Contains, refl, sym, ap, subst, arith}
use Rattle.std.specs.Option.{option_and_then}
use Rattle.release_list.specs.domain_base.declared.place.CellAt.{CellAt}
use Rattle.release_list.specs.domain_base.declared.place.Home.{Home}
use Rattle.release_list.specs.domain_base.declared.place.Kind.{Kind}
use Rattle.release_list.specs.domain_base.declared.place.Kind.TheVariants.{Directory, File}
use Rattle.release_list.specs.domain_base.declared.place.Tag.{Tag}
use Rattle.release_list.specs.domain_base.declared.version.Version.{Version}
use Rattle.release_list.specs.page_store.Bitfiles.{Bitfile, shown_index}
use Rattle.release_list.specs.metadata_cells.Chain.{PlacedCell}
use Rattle.release_list.specs.tag_dirs.declared.dir.TagPlace.{TagPlace}
use Rattle.release_list.specs.tag_dirs.TagPage.{next_of}
use Rattle.release_list.specs.extent_maps.declared.run.PagePlace.{PagePlace}
use Rattle.release_list.specs.extent_maps.declared.run.PagePlace.TheVariants.{Absent, At, Hole}
use Rattle.release_list.specs.free_cells.Cells.{table_of}
use Rattle.release_list.specs.file_chains.Files.{places_of}
use Rattle.release_list.specs.fileset_files.Files.{Chains}
use Rattle.release_list.specs.fileset_files.Shown.{AreIndexPages, IsWhat, ShowsFile, index_in, index_of, page_there, shown_page}
use Rattle.release_list.specs.Steps.{IsWell, Now, Steps, more, none}
use Rattle.release_list.proofs.Spread.{none_not, some_same}
use Rattle.release_list.proofs.Standings.{place_by}
use Rattle.release_steps.specs.Kept.{SaysTheSame}
use Rattle.release_steps.specs.Shown.{IsIndexApart, StaysShown}
use Rattle.release_steps.specs.Waits.{StandsApart}
use Rattle.release_steps.specs.Tags.{AreAmong, chains_in, start_of}
use Rattle.release_steps.proofs.HeldSteps.{held_still, tables_on}
use Rattle.release_steps.proofs.SaysStill.{said_so}
use Rattle.release_steps.proofs.StillAmong.{file_of_tag}
use Rattle.release_steps.proofs.Tags.{page_stays, was_listed}
use Rattle.release_steps.proofs.TagsBeside.{beside_stay}
use Rattle.release_steps.proofs.Wells.{well_step, wells_stay}

-- ---- pages on no table

record PagesStill (first now : Now) (h : Home) : Type 0 where
  well : IsWell now
  gone : ¬ Contains now.list.tag_pages h
  same : ¬ Contains (table_of now.cells h.vol) h.page → now.pages h ≡ first.pages h

pages_still : (group : ℕ) (version : Version) (first : Now) (count : ℕ) (last : Now) → IsWell first → Steps group version first count last → (h : Home) → ¬ Contains first.list.tag_pages h → PagesStill first last h
pages_still group version first count last well steps h out =
    elim steps as (λ count last steps. PagesStill first last h) [
      | none ↦ record { well = well; gone = out; same = λ off. refl }
      | more n between last (steps → was) step ↦ record {
        well = well_step group version between last was.well step;
        gone = λ inside. was.gone (was_listed group version between last was.well step h inside);
        same = λ off. page_stays group version between last was.well step h off was.gone ∙ was.same (λ on. off (tables_on group version between last was.well step h.vol h.page on));
      }
    ]

module _ (group : ℕ) (version : Version) (first : Now) (count : ℕ) (last : Now) (well : IsWell first) (steps : Steps group version first count last) where
  same_page : (h : Home) → ¬ Contains first.list.tag_pages h → ¬ Contains (table_of last.cells h.vol) h.page → last.pages h ≡ first.pages h
  same_page h out off = (pages_still group version first count last well steps h out).same off

  -- ---- the pages of an index

  apart_page : (h : Home) → StandsApart first h → last.pages h ≡ first.pages h
  apart_page h stands = same_page h stands.not_listed ((held_still group version first count last well steps h stands.low).stands stands).apart.off_table

  -- if the pages after it are read again
  page_again : (page : List ℕ) (others : List (List ℕ)) → ((start : Option Home) → IsIndexApart first start others → AreIndexPages first.pages start others → AreIndexPages last.pages start others) → (o : Option (List ℕ))
      → IsSomeAnd o (λ stored. IsIndexApart first (next_of stored) others) → IsSomeAnd o (λ stored. (page ≡ shown_index stored) × AreIndexPages first.pages (next_of stored) others) → IsSomeAnd o (λ stored. (page ≡ shown_index stored) × AreIndexPages last.pages (next_of stored) others)
  page_again page others later None apart are = are
  page_again page others later (Some stored) apart are = (are.0, later (next_of stored) apart are.1)

  index_still : (pages : List (List ℕ)) (start : Option Home) → IsIndexApart first start pages → AreIndexPages first.pages start pages → AreIndexPages last.pages start pages
  index_still [] None apart are = tt
  index_still [] (Some home) apart are = are
  index_still (page ∷ others) None apart are = are
  index_still (page ∷ others) (Some home) apart are =
      subst (λ o. IsSomeAnd o (λ stored. (page ≡ shown_index stored) × AreIndexPages last.pages (next_of stored) others)) (sym (apart_page home apart.0))
      (page_again page others (λ start a b. index_still others start a b) (first.pages home) apart.1 are)

  -- ---- a tag's file

  module _ (places : List TagPlace) (chains : Chains) (among : AreAmong first places chains) (tag : Tag) (cells : List PlacedCell) (is : chains tag ≡ Some cells) (after : List PlacedCell) (now : chains_in last.files chains tag ≡ Some after) (file : Bitfile) (stays : StaysShown first cells file) where
    record IsFileAt : Type 0 where
      at : CellAt
      start : start_of cells ≡ Some at
      was : first.files at ≡ Some cells
      there : last.files at ≡ Some after

    file_at : IsFileAt
    file_at = by_start (start_of cells) refl
      where
        by_start : (o : Option CellAt) → start_of cells ≡ o → IsFileAt
        by_start None none_start = absurd (none_not after (sym (ap (λ o. option_and_then last.files (option_and_then start_of o)) is ∙ ap (option_and_then last.files) none_start) ∙ now))
        by_start (Some at) start = record {
          at = at;
          start = start;
          was = file_of_tag first.files chains tag cells at (among.same tag) is start;
          there = sym (ap (λ o. option_and_then last.files (option_and_then start_of o)) is ∙ ap (option_and_then last.files) start) ∙ now;
        }

    says : SaysTheSame cells after
    says =
        let it = said_so group version first count last well steps file_at.at after file_at.there in
        subst (λ (cs : List PlacedCell). SaysTheSame cs after) (some_same it.0 cells (sym it.1 ∙ file_at.was)) it.2

    -- a directory's cells are as they were
    same_cells : file.kind ≡ Directory → after ≡ cells
    same_cells kind = some_same after cells (sym now ∙ beside_stay group version first count last steps places chains among tag
        (λ at starts. stays.beside kind at (sym (ap (option_and_then start_of) is) ∙ starts)) ∙ is)

    shown_same : (kind : Kind) → file.kind ≡ kind → (number : ℕ) → shown_page last.pages after kind number ≡ shown_page first.pages cells kind number
    shown_same File of_kind number = refl
    shown_same Directory of_kind number = ap (λ (cs : List PlacedCell). page_there last.pages (places_of cs number)) (same_cells of_kind) ∙ by_place (places_of cells number) refl
      where
        by_place : (place : PagePlace) → places_of cells number ≡ place → page_there last.pages (places_of cells number) ≡ page_there first.pages (places_of cells number)
        by_place Absent at = ap (page_there last.pages) at ∙ sym (ap (page_there first.pages) at)
        by_place Hole at = ap (page_there last.pages) at ∙ sym (ap (page_there first.pages) at)
        by_place (At home) at =
            let held = (wells_stay group version first count last well steps).together.held file_at.at number home
            (place_by last.files file_at.at after number file_at.there ∙ ap (λ (cs : List PlacedCell). places_of cs number) (same_cells of_kind) ∙ at) in
            ap (page_there last.pages) at ∙ same_page home (λ inside. well.listed.pages_apart home inside file_at.at number (place_by first.files file_at.at cells number file_at.was ∙ at)) held.off_table ∙ sym (ap (page_there first.pages) at)

    pub shown_still : ShowsFile first.pages cells file → ShowsFile last.pages after file
    shown_still shows = record {
      what = subst (λ o. IsSomeAnd o (IsWhat file)) (sym says.what) shows.what;
      each = λ number. shows.each number ∙ sym (shown_same file.kind refl number);
      index = subst (λ o. AreIndexPages last.pages o file.index) (sym (ap (option_and_then index_in) (says.others 9 (λ e. omega (arith, e)) (λ e. omega (arith, e)) (λ e. omega (arith, e)) refl)))
          (index_still file.index (index_of cells) stays.index shows.index);
    }
