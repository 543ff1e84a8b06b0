-- An index that gets a page more, once it is said where it begins and how many entries it has then.
use Rattle.std.proofs.Common.{◌≡◌, ◌∙◌, ◌+◌, ◌^◌, ◌<◌, ◌≤◌, ℕ, Option, Some, None, List, [], ◌∷◌, Contains, length, refl, sym, ap, subst, arith}
use Rattle.std.specs.List.{insert}
use Rattle.std.specs.Option.{option_and_then, option_map_or}
use Rattle.index_pages.specs.domain_base.declared.place.Home.{Home}
use Rattle.index_pages.specs.domain_base.declared.place.Tag.{Tag}
use Rattle.index_pages.specs.page_store.Bitfiles.{Bitfile, Bitfiles as SetOf, IsDirectory, count_index, insert_index, shown_index, with_change}
use Rattle.index_pages.specs.page_store.Pages.{Pages}
use Rattle.index_pages.specs.tag_dirs.declared.dir.TagPlace.{TagPlace}
use Rattle.index_pages.specs.free_cells.Cells.{Cells}
use Rattle.index_pages.specs.free_space.VolumeSpace.{with_page}
use Rattle.index_pages.specs.free_space.Spaces.{CanTake, IsHeld, Spaces, change_volume}
use Rattle.index_pages.proofs.OfFileChains.Spaces.{not_held}
use Rattle.index_pages.specs.fileset_files.declared.indexing.IndexPlace.{IndexPlace}
use Rattle.index_pages.specs.fileset_files.Changes.{ChangesFirst, with_chain, with_first}
use Rattle.index_pages.specs.fileset_files.Files.{of_live}
use Rattle.index_pages.specs.fileset_files.Index.{index_place_of, says_index}
use Rattle.index_pages.specs.fileset_files.State.{States, states_of}
use Rattle.index_pages.specs.fileset_files.Together.{AreTogether}
use Rattle.index_pages.proofs.OfFilesetFiles.Created.{together_page}
use Rattle.index_pages.specs.fileset_files.States.{indexed}
use Rattle.index_pages.proofs.OfFilesetFiles.FirstCells.{index_said}
use Rattle.index_pages.specs.Changes.{InsertsIndexPage}
use Rattle.index_pages.specs.Homes.{AreIndexHomes, shown_at}
use Rattle.index_pages.proofs.Homes.{kept_same}
use Rattle.stored_set.proofs.FirstTells.{off_tables_still}
use Rattle.stored_set.proofs.SaidFirst.{linked_in}
use Rattle.stored_set.proofs.Wholeness.{total_inserted, whole_inserted}
use Rattle.stored_set.specs.Whole.{AreWholeDirectories, entries_on, total_on}
use Rattle.stored_set.proofs.Bare.{bare_inserted}
use Rattle.stored_set.proofs.Entries.{shown_entries}
use Rattle.stored_set.proofs.Indexed.{counted, first_of, homes_at}
use Rattle.stored_set.proofs.Sized.{IsAt, index_count_here, index_here, the_file, total_here}
use Rattle.stored_set.proofs.States.{said_states}
use Rattle.stored_set.specs.Sets.{StandsAsSet}

module _ (fileset : ℕ) (places : List TagPlace) (space : Spaces) (cells : Cells) (old : Pages) (set : SetOf) (was : StandsAsSet fileset places space cells old set) (tag : Tag) (directory : IsDirectory set tag) (index : Option IndexPlace) (told : index ≡ option_and_then (of_live index_place_of) (was.chains tag)) where
  here : IsAt set tag
  here = the_file set tag directory

  pub homes_old : AreIndexHomes old (first_of index) (was.indexes tag)
  homes_old = homes_at fileset places space cells old set was tag directory index told

  -- how many entries it has
  total_before : option_map_or (λ (place : IndexPlace). place.entries) index 0 ≡ total_on here.file.index
  total_before = by_index index told homes_old
    where
      none : (homes : List Home) → AreIndexHomes old None homes → total_on (shown_at old homes) ≡ 0
      none [] are = refl
      none (h ∷ homes) are = absurd are

      by_index : (o : Option IndexPlace) → o ≡ option_and_then (of_live index_place_of) (was.chains tag) → AreIndexHomes old (first_of o) (was.indexes tag) → option_map_or (λ (place : IndexPlace). place.entries) o 0 ≡ total_on here.file.index
      by_index None told are = sym (ap total_on (index_here fileset places space cells old set was tag here) ∙ none (was.indexes tag) are)
      by_index (Some place) told are = total_here fileset places space cells old set was tag here place told

  module _ (home : Home) (low : 1 ≤ home.vol) (free : CanTake space home.vol home.page) (mid : Pages) (first : ChangesFirst (was.chains tag) old mid) where
    pub off_index : ¬ Contains (was.indexes tag) home
    off_index inside = not_held space home.vol home.page free (was.stands.stand tag home inside).apart.held

    pub homes_mid : AreIndexHomes mid (first_of index) (was.indexes tag)
    homes_mid = kept_same old mid (first_of index) (was.indexes tag) homes_old (λ h inside. off_tables_still cells (was.chains tag) old mid (was.stands.together.on_tables tag) first h (was.stands.stand tag h inside).apart.off_table)

    abbrev space_now : Spaces
    space_now = change_volume (with_page home.page) space home.vol

    pub together_taken : AreTogether fileset places space_now cells old was.chains
    together_taken = together_page old fileset places was.chains space cells home was.stands.together

    module _ (now : IndexPlace) (number : ℕ) (bytes : List ℕ) (whole : length bytes ≡ 8192) (within : number ≤ count_index set tag) (total : now.entries ≡ option_map_or (λ (place : IndexPlace). place.entries) index 0 + entries_on bytes)
        (fits : length (was.indexes tag) + 1 < 2 ^ 32) (together : AreTogether fileset places space_now cells mid (with_chain tag (with_first (says_index (Some now))) was.chains)) where
      total_now : (file : Bitfile) → set tag ≡ Some file → now.entries ≡ total_on (insert file.index number (shown_index bytes))
      total_now file at =
          let same : file ≡ here.file = ap (λ o. option_map_or (λ f. f) o file) (sym at ∙ here.is) in
          subst (λ (f : Bitfile). now.entries ≡ total_on (insert f.index number (shown_index bytes))) (sym same)
          (omega (arith, total, total_before, total_inserted number (shown_index bytes) here.file.index (omega (arith, within, index_count_here fileset places space cells old set was tag here)), shown_entries bytes whole))

      pub set_inserted : (new : Pages) → InsertsIndexPage now.first home number bytes mid new (was.indexes tag) → StandsAsSet fileset places space_now cells new (with_change tag (insert_index number (shown_index bytes)) set)
      set_inserted new inserts = record {
        chains = with_chain tag (with_first (says_index (Some now))) was.chains;
        indexes = _;
        stands = linked_in fileset places space cells old mid new was.chains was.indexes set was.stands tag number bytes home now low free first inserts together directory;
        whole = subst (λ (s : States). AreWholeDirectories s (with_change tag (insert_index number (shown_index bytes)) set))
            (sym (said_states fileset places old was.chains tag (says_index (Some now)) (indexed (Some now)) was.stands.together.files (λ pages first rest file. index_said pages first rest file (Some now))))
            (whole_inserted (states_of was.chains) set was.whole tag now number (shown_index bytes) (subst (λ n. n + 1 < 2 ^ 32) (sym (counted fileset places space cells old set was tag directory)) fits) total_now);
        bare = bare_inserted set was.bare tag directory number (shown_index bytes);
        low = was.low;
      }
