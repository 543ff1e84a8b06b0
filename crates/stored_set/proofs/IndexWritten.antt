-- An index with one page put in place of another, once it is said how many entries it has then.
use Rattle.std.proofs.Common.{◌≡◌, ◌∙◌, ◌+◌, ◌-◌, ◌<◌, ◌≤◌, ℕ, Option, Some, None, List, length, refl, sym, ap, subst, arith}
use Rattle.std.specs.Option.{option_and_then, option_map, option_map_or}
use Rattle.index_pages.specs.domain_base.declared.place.Home.{Home}
use Rattle.index_pages.specs.domain_base.declared.place.Tag.{Tag}
use Rattle.index_pages.specs.page_store.Bitfiles.{Bitfile, Bitfiles as SetOf, IsDirectory, count_index, put_index, shown_index, with_change, with_entry}
use Rattle.index_pages.specs.page_store.Pages.{Pages}
use Rattle.index_pages.specs.metadata_cells.Chain.{PlacedCell}
use Rattle.index_pages.specs.tag_dirs.declared.dir.TagPlace.{TagPlace}
use Rattle.index_pages.specs.free_cells.Cells.{Cells}
use Rattle.index_pages.specs.free_space.Spaces.{Spaces}
use Rattle.index_pages.specs.fileset_files.declared.indexing.IndexPlace.{IndexPlace}
use Rattle.index_pages.specs.fileset_files.Changes.{ChangesFirst, with_chain, with_first}
use Rattle.index_pages.specs.fileset_files.Files.{Chains, of_live}
use Rattle.index_pages.specs.fileset_files.Index.{index_place_of, says_index}
use Rattle.index_pages.specs.fileset_files.Shown.{index_of}
use Rattle.index_pages.specs.fileset_files.State.{States, states_of, with_changed}
use Rattle.index_pages.specs.fileset_files.Together.{AreTogether}
use Rattle.index_pages.proofs.OfFilesetFiles.OneChain.{chain_same, same_tag_itself}
use Rattle.index_pages.specs.fileset_files.States.{indexed}
use Rattle.index_pages.proofs.OfFilesetFiles.FirstCells.{index_said}
use Rattle.index_pages.specs.Changes.{PutsIndexPage}
use Rattle.index_pages.specs.Homes.{AreIndexHomes, shown_at}
use Rattle.stored_set.proofs.EntriesSaid.{said}
use Rattle.stored_set.proofs.FirstTells.{tells_at}
use Rattle.stored_set.proofs.IndexPut.{put as index_put}
use Rattle.stored_set.proofs.Wholeness.{total_most, total_replaced, whole_put}
use Rattle.stored_set.specs.Standing.{StandsShown}
use Rattle.stored_set.specs.Whole.{AreWholeDirectories, entries_at, entries_on, total_on}
use Rattle.stored_set.proofs.Bare.{bare_put}
use Rattle.stored_set.proofs.Entries.{shown_entries}
use Rattle.stored_set.proofs.Indexed.{begins, first_of}
use Rattle.stored_set.proofs.Sized.{IsAt, index_count_here, index_here, the_file, total_here}
use Rattle.stored_set.proofs.States.{said_states}
use Rattle.stored_set.specs.Sets.{StandsAsSet}

module _ (fileset : ℕ) (places : List TagPlace) (space : Spaces) (cells : Cells) (old : Pages) (set : SetOf) (was : StandsAsSet fileset places space cells old set) (tag : Tag) (directory : IsDirectory set tag) (index : IndexPlace) (told : Some index ≡ option_and_then (of_live index_place_of) (was.chains tag)) where
  here : IsAt set tag
  here = the_file set tag directory

  abbrev gone : ℕ → ℕ
  gone number = entries_at number (shown_at old (was.indexes tag))

  gone_is : (number : ℕ) → gone number ≡ entries_at number here.file.index
  gone_is number = ap (entries_at number) (sym (index_here fileset places space cells old set was tag here))

  -- what goes is no more than all
  pub gone_most : (number : ℕ) → gone number ≤ index.entries
  gone_most number = omega (arith, gone_is number, total_here fileset places space cells old set was tag here index told, total_most number here.file.index)

  pub starts : option_and_then index_of (was.chains tag) ≡ Some index.first
  starts = begins fileset places space cells old set was tag directory ∙ ap first_of (sym told)

  module _ (now : IndexPlace) (same_first : now.first ≡ index.first) (mid : Pages) (first : ChangesFirst (was.chains tag) old mid) (together : AreTogether fileset places space cells mid (with_chain tag (with_first (says_index (Some now))) was.chains)) where
    abbrev chains_now : Chains
    chains_now = with_chain tag (with_first (says_index (Some now))) was.chains

    starts_so : option_and_then index_of (was.chains tag) ≡ Some now.first
    starts_so = starts ∙ ap Some (sym same_first)

    shown_said : StandsShown fileset places space cells mid chains_now was.indexes set
    shown_said = said fileset places space cells old mid was.chains was.indexes set was.stands tag now starts_so first together

    -- where it begins then
    pub starts_now : option_and_then index_of (chains_now tag) ≡ Some index.first
    starts_now = ap (option_and_then index_of) (chain_same tag (with_first (says_index (Some now))) was.chains tag (same_tag_itself tag)) ∙ by_chain (was.chains tag) refl
      where
        by_chain : (o : Option (List PlacedCell)) → was.chains tag ≡ o → option_and_then index_of (option_map (with_first (says_index (Some now))) o) ≡ Some index.first
        by_chain None at = sym (ap (option_and_then index_of) at) ∙ starts
        by_chain (Some cs) at = (tells_at fileset places old was.chains was.stands.together.files tag now cs at).begins ∙ ap Some same_first

    pub homes_said : AreIndexHomes mid (Some index.first) (was.indexes tag)
    homes_said = subst (λ o. AreIndexHomes mid o (was.indexes tag)) starts_now (shown_said.indexed tag)

    module _ (number : ℕ) (bytes : List ℕ) (whole : length bytes ≡ 8192) (within : number < count_index set tag) (total : now.entries ≡ index.entries - gone number + entries_on bytes) where
      total_now : (file : Bitfile) → set tag ≡ Some file → now.entries ≡ total_on (with_entry number (shown_index bytes) file.index)
      total_now file at =
          let same : file ≡ here.file = ap (λ o. option_map_or (λ f. f) o file) (sym at ∙ here.is) in
          subst (λ (f : Bitfile). now.entries ≡ total_on (with_entry number (shown_index bytes) f.index)) (sym same)
          (omega (
            arith,
            total,
            gone_is number,
            gone_most number,
            total_here fileset places space cells old set was tag here index told,
            total_replaced number (shown_index bytes) here.file.index (omega (arith, within, index_count_here fileset places space cells old set was tag here)),
            shown_entries bytes whole,
          ))

      pub set_written : (new : Pages) → PutsIndexPage (Some index.first) number bytes mid new (was.indexes tag) → StandsAsSet fileset places space cells new (with_change tag (put_index number (shown_index bytes)) set)
      set_written new puts = record {
        chains = chains_now;
        indexes = was.indexes;
        stands = index_put fileset places space cells mid new chains_now was.indexes set shown_said tag number bytes (subst (λ o. PutsIndexPage o number bytes mid new (was.indexes tag)) (sym starts_now) puts) directory;
        whole = subst (λ (s : States). AreWholeDirectories s (with_change tag (put_index number (shown_index bytes)) set))
            (sym (said_states fileset places old was.chains tag (says_index (Some now)) (indexed (Some now)) was.stands.together.files (λ pages first rest file. index_said pages first rest file (Some now))))
            (whole_put (states_of was.chains) set was.whole tag now number (shown_index bytes) within total_now);
        bare = bare_put set was.bare tag directory number (shown_index bytes);
        low = was.low;
      }
