-- Where it is known that files are shown as some set, that set is at hand.
use Rattle.std.proofs.Common.{◌≡◌, ℕ, List, subst}
use Rattle.std.proofs.Math.Logic.{∥∥₁_map}
use Rattle.std.specs.Option.{option_and_then}
use Rattle.index_pages.specs.page_store.Bitfiles.{Bitfiles}
use Rattle.index_pages.specs.page_store.Pages.{Pages}
use Rattle.index_pages.specs.tag_dirs.declared.dir.TagPlace.{TagPlace}
use Rattle.index_pages.specs.free_cells.Cells.{Cells}
use Rattle.index_pages.specs.free_space.Spaces.{Spaces}
use Rattle.index_pages.specs.fileset_files.Files.{Chains}
use Rattle.index_pages.specs.fileset_files.Shown.{ShowsAt, index_of}
use Rattle.index_pages.specs.fileset_files.State.{states_of}
use Rattle.index_pages.proofs.OfFilesetFiles.Created.{one_chains}
use Rattle.index_pages.proofs.OfFilesetFiles.ShownOnce.{show_once}
use Rattle.index_pages.proofs.Homes.{one_list}
use Rattle.stored_set.specs.Standing.{AreTagsOnVolumes, Indexes, StandsShown}
use Rattle.stored_set.specs.Whole.{AreWholeDirectories, HaveNoIndex}
use Rattle.stored_set.proofs.Stable.{IsStable, both, determined}
use Rattle.stored_set.proofs.StableFiles.{chains_set}
use Rattle.stored_set.proofs.StableSets.{files_set, indexes_set, no_index, stands_shown, tags_low, whole_directories}
use Rattle.stored_set.specs.Sets.{HasSet}

module _ (fileset : ℕ) (places : List TagPlace) (space : Spaces) (cells : Cells) (pages : Pages) where
  -- a set that stands, part by part
  abbrev Rest : Bitfiles → Chains → Indexes → Type 0
  Rest files chains indexes = StandsShown fileset places space cells pages chains indexes files × (AreWholeDirectories (states_of chains) files × (HaveNoIndex files × AreTagsOnVolumes places))

  abbrev Parts : Type 0
  Parts = (files : Bitfiles) × ((chains : Chains) × ((indexes : Indexes) × Rest files chains indexes))

  same_chains : (a b : Chains) (i j : Indexes) (f g : Bitfiles) → StandsShown fileset places space cells pages a i f → StandsShown fileset places space cells pages b j g → a ≡ b
  same_chains a b i j f g x y = λ k t. one_chains pages fileset places a b x.together.files y.together.files t k

  same_indexes : (chains : Chains) (i j : Indexes) (f : Bitfiles) → StandsShown fileset places space cells pages chains i f → StandsShown fileset places space cells pages chains j f → i ≡ j
  same_indexes chains i j f x y = λ k t. one_list pages (option_and_then index_of (chains t)) (i t) (j t) (x.indexed t) (y.indexed t) k

  same_files : (a b : Chains) (i j : Indexes) (f g : Bitfiles) → StandsShown fileset places space cells pages a i f → StandsShown fileset places space cells pages b j g → f ≡ g
  same_files a b i j f g x y = λ k t. show_once pages a f g x.shows (λ u. subst (λ o. ShowsAt pages o (g u)) (one_chains pages fileset places b a y.together.files x.together.files u) (y.shows u)) t k

  rest : (files : Bitfiles) (chains : Chains) (indexes : Indexes) → IsStable (Rest files chains indexes)
  rest files chains indexes = both (stands_shown fileset places space cells pages chains indexes files) (both (whole_directories (states_of chains) files) (both (no_index files) (tags_low places)))

  parts : IsStable Parts
  parts =
      determined (λ (files : Bitfiles). (chains : Chains) × ((indexes : Indexes) × Rest files chains indexes)) files_set (λ f g x y. same_files x.0 y.0 x.1.0 y.1.0 f g x.1.1.0 y.1.1.0)
      (λ files. determined (λ (chains : Chains). (indexes : Indexes) × Rest files chains indexes) chains_set (λ a b x y. same_chains a b x.0 y.0 files files x.1.0 y.1.0)
      (λ chains. determined (λ (indexes : Indexes). Rest files chains indexes) indexes_set (λ i j x y. same_indexes chains i j files x.0 y.0) (rest files chains)))

  pub has_set : IsStable (HasSet fileset places space cells pages)
  has_set t =
      let found : Parts = parts (∥∥₁_map t (λ x. (x.0, (x.1.chains, (x.1.indexes, (x.1.stands, (x.1.whole, (x.1.bare, x.1.low)))))))) in (
        found.0,
        record {
          chains = found.1.0;
          indexes = found.1.1.0;
          stands = found.1.1.1.0;
          whole = found.1.1.1.1.0;
          bare = found.1.1.1.1.1.0;
          low = found.1.1.1.1.1.1;
        },
      )
