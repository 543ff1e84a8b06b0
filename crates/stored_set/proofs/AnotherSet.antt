-- A set stays where nothing changes that is its own.
use Rattle.std.proofs.Common.{◌≡◌, ◌∙◌, ℕ, Option, Some, None, IfSome, IsSomeAnd, List, [], ◌∷◌, slice_get, sym, subst}
use Rattle.std.specs.List.{AllByRecursion}
use Rattle.std.specs.Option.{option_and_then}
use Rattle.index_pages.specs.domain_base.declared.place.CellAt.{CellAt}
use Rattle.index_pages.specs.domain_base.declared.place.Tag.{Tag}
use Rattle.index_pages.specs.page_store.Bitfiles.{Bitfiles}
use Rattle.index_pages.specs.page_store.Pages.{Pages}
use Rattle.index_pages.specs.metadata_cells.CellPage.{cell_at}
use Rattle.index_pages.specs.metadata_cells.Chain.{PlacedCell, StandsAt}
use Rattle.index_pages.specs.tag_dirs.Directory.{cell_of}
use Rattle.index_pages.specs.tag_dirs.declared.dir.TagPlace.{TagPlace}
use Rattle.index_pages.specs.free_cells.Cells.{Cells}
use Rattle.index_pages.specs.free_space.Spaces.{Spaces}
use Rattle.index_pages.specs.file_chains.Files.{IsFile}
use Rattle.index_pages.proofs.OfFileChains.ChainChanges.{stand_file}
use Rattle.index_pages.specs.fileset_files.Files.{AreFiles, Chains, LeadsToFile}
use Rattle.index_pages.specs.fileset_files.Shown.{index_of}
use Rattle.index_pages.proofs.OfFilesetFiles.OneChain.{file_by}
use Rattle.index_pages.proofs.OfFilesetFiles.Tags.{cell_same, directory_same, pages_same}
use Rattle.index_pages.proofs.Homes.{kept_same}
use Rattle.stored_set.specs.Elsewhere.{AllStay}
use Rattle.stored_set.specs.Standing.{Indexes, StandsShown}
use Rattle.stored_set.proofs.Beside.{shown_still}

module _ (fileset : ℕ) (places : List TagPlace) (space space_now : Spaces) (cells cells_now : Cells) (old new : Pages) (chains : Chains) (indexes : Indexes) (files : Bitfiles) (was : StandsShown fileset places space cells old chains indexes files)
    (stay : AllStay places space_now cells_now old new chains indexes) where
  tag_pages_same : (k : ℕ) → IfSome (slice_get places k) (λ (place : TagPlace). new place.home ≡ old place.home)
  tag_pages_same = pages_same old new places (λ home has. (stay.tags home has).same)

  leads_same : (t : Tag) → cell_of new places t ≡ cell_of old places t
  leads_same = cell_same old new places was.together.files.directory tag_pages_same

  stand_again : (cs : List PlacedCell) → AllByRecursion (λ (c : PlacedCell). cell_at new c.at ≡ cell_at old c.at) cs → AllByRecursion (λ (c : PlacedCell). StandsAt old c.at c.cell) cs → AllByRecursion (λ (c : PlacedCell). StandsAt new c.at c.cell) cs
  stand_again [] same stand = tt
  stand_again (c ∷ cs) same stand = (record { bytes = stand.0.bytes; there = same.0 ∙ stand.0.there; is = stand.0.is }, stand_again cs same.1 stand.1)

  some_again : (t : Tag) → IfSome (chains t) (LeadsToFile fileset places new t)
  some_again t = by_chain (chains t) (was.together.files.some t) (stay.cells_stay t)
    where
      by_cell : (o : Option CellAt) (cs : List PlacedCell) → AllByRecursion (λ (c : PlacedCell). cell_at new c.at ≡ cell_at old c.at) cs → IsSomeAnd o (λ at. IsFile old at cs) → IsSomeAnd o (λ at. IsFile new at cs)
      by_cell None cs same is = is
      by_cell (Some at) cs same is = file_by old new at cs (stand_again cs same (stand_file old at cs is)) is

      by_chain : (o : Option (List PlacedCell)) → IfSome o (LeadsToFile fileset places old t) → IfSome o (AllByRecursion (λ (c : PlacedCell). cell_at new c.at ≡ cell_at old c.at)) → IfSome o (LeadsToFile fileset places new t)
      by_chain None leads same = tt
      by_chain (Some cs) leads same = record {
        leads = subst (λ o. IsSomeAnd o (λ at. IsFile new at cs)) (sym (leads_same t)) (by_cell (cell_of old places t) cs same leads.leads);
        is_of = leads.is_of;
        kinds = leads.kinds;
      }

  files_again : AreFiles fileset places new chains
  files_again = record {
    directory = directory_same old new places was.together.files.directory tag_pages_same;
    none = λ t none. leads_same t ∙ was.together.files.none t none;
    some = some_again;
    apart = was.together.files.apart;
  }

  pub stands_again : StandsShown fileset places space_now cells_now new chains indexes files
  stands_again = record {
    together = record {
      files = files_again;
      allocated = stay.allocated;
      on_tables = stay.on_tables;
      tag_pages = λ home has. (stay.tags home has).apart;
      file_pages = λ t page home at. record { apart = (stay.pages t page home at).apart; no_tags = (was.together.file_pages t page home at).no_tags };
      once = was.together.once;
    };
    shows = λ t. shown_still old new chains indexes t (files t) (was.indexed t) (λ page home at. (stay.pages t page home at).same) (λ home inside. (stay.index_pages t home inside).same) (was.shows t);
    indexed = λ t. kept_same old new (option_and_then index_of (chains t)) (indexes t) (was.indexed t) (λ home inside. (stay.index_pages t home inside).same);
    stand = λ t home inside. record { apart = (stay.index_pages t home inside).apart; no_tags = (was.stand t home inside).no_tags };
    apart = was.apart;
    once = was.once;
  }
