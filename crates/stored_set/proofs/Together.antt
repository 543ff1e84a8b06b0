-- Files belong together as before where no page of a table and none of the tag directory changes.
use Rattle.std.proofs.Common.{◌≡◌, ◌∙◌, ℕ, ◌<◌, Option, IsSomeAnd, List, length, true, slice_index, Contains, sym, ap, subst, arith}
use Rattle.std.proofs.lemmas.List.{get_or_default}
use Rattle.index_pages.specs.domain_base.declared.place.CellAt.{CellAt}
use Rattle.index_pages.specs.domain_base.declared.place.Home.{Home}
use Rattle.index_pages.specs.page_store.Pages.{Pages}
use Rattle.index_pages.specs.metadata_cells.CellPage.{cell_at, home_of, next_of}
use Rattle.index_pages.specs.metadata_cells.Cell.{Cell}
use Rattle.index_pages.specs.metadata_cells.Chain.{StandsAt}
use Rattle.index_pages.specs.tag_dirs.declared.dir.TagPlace.{TagPlace}
use Rattle.index_pages.specs.tag_dirs.Directory.{has_home}
use Rattle.index_pages.specs.free_cells.Belong.{IsPageOf, home_at}
use Rattle.index_pages.specs.free_cells.Cells.{Cells, table_of}
use Rattle.index_pages.specs.free_space.Spaces.{Spaces}
use Rattle.index_pages.specs.file_chains.Allocated.{AreAllocated}
use Rattle.index_pages.specs.fileset_files.Files.{Chains}
use Rattle.index_pages.specs.fileset_files.Together.{AreTogether}
use Rattle.index_pages.proofs.OfFilesetFiles.Created.{together_beside}
use Rattle.index_pages.proofs.OfFilesetFiles.Tags.{cell_same, directory_same, pages_same}

module _ (old new : Pages) (cells : Cells) (same : (home : Home) → Contains (table_of cells home.vol) home.page → new home ≡ old home) where
  on_table : (vol place : ℕ) → place < length (table_of cells vol) → Contains (table_of cells vol) (slice_index (table_of cells vol) place)
  on_table vol place within = (place, within, get_or_default (table_of cells vol) place (slice_index (table_of cells vol) place) 0 within)

  cell_still : (at : CellAt) → Contains (table_of cells at.vol) at.page → cell_at new at ≡ cell_at old at
  cell_still at on = ap (λ (o : Option (List ℕ)). cell_at (λ _. o) at) (same (home_of at) on)

  pub stands_still : (at : CellAt) (cell : Cell) → StandsAt old at cell → Contains (table_of cells at.vol) at.page → StandsAt new at cell
  stands_still at cell stands on = record { bytes = stands.bytes; there = cell_still at on ∙ stands.there; is = stands.is }

  allocated_away : (space : Spaces) → AreAllocated space cells old → AreAllocated space cells new
  allocated_away space was = record {
    belong = record {
      run = λ vol place within. subst (λ (o : Option (List ℕ)). IsSomeAnd o (IsPageOf (table_of cells vol) place)) (sym (same (home_at cells vol place) (on_table vol place within))) (was.belong.run vol place within);
      on_table = was.belong.on_table;
      zeros = λ at free. cell_still at (was.belong.on_table at free) ∙ was.belong.zeros at free;
    };
    held = was.held;
    table = was.table;
    opened = was.opened;
    first = was.first;
    ends = λ vol place last. subst (λ (o : Option (List ℕ)). IsSomeAnd o (λ page. next_of page ≡ 0)) (sym (same (home_at cells vol place) (on_table vol place (omega (arith, last))))) (was.ends vol place last);
  }

  pub together_away : (fileset : ℕ) (places : List TagPlace) (space : Spaces) (chains : Chains) → ((home : Home) → has_home places home ≡ true → new home ≡ old home)
      → AreTogether fileset places space cells old chains → AreTogether fileset places space cells new chains
  together_away fileset places space chains tags are =
      let tag_pages = pages_same old new places tags in
      together_beside old new fileset places places chains space space cells cells are (directory_same old new places are.files.directory tag_pages)
      (λ t. cell_same old new places are.files.directory tag_pages t) stands_still (λ h is. is) (λ vol p on. on) (allocated_away space are.allocated) are.tag_pages
      (λ t p h there. (are.file_pages t p h there).no_tags)
