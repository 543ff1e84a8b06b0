-- Pages that are given back together, and are there no more.
use Rattle.std.proofs.Common.{◌≡◌, ℕ, ◌≤◌, List, [], ◌∷◌, Some, Contains}
use Rattle.std.specs.List.{AllByRecursion}
use Rattle.release_list.specs.domain_base.declared.place.CellAt.{CellAt}
use Rattle.release_list.specs.domain_base.declared.place.Home.{Home}
use Rattle.release_list.specs.page_store.Pages.{Pages}
use Rattle.release_list.specs.metadata_cells.CellPage.{home_of}
use Rattle.release_list.specs.metadata_cells.Chain.{PlacedCell, StandsAt}
use Rattle.release_list.specs.extent_maps.declared.run.PagePlace.TheVariants.{At}
use Rattle.release_list.specs.free_cells.Cells.{table_of}
use Rattle.release_list.specs.free_space.declared.waiting.PageUse.{PageUse}
use Rattle.release_list.specs.free_space.Spaces.{Spaces}
use Rattle.release_list.specs.file_chains.FileChanges.{AreOnTables}
use Rattle.release_list.specs.fileset_files.Together.{IsHeldApart}
use Rattle.release_list.proofs.OfFilesetFiles.Created.{allocated_beside, stands_by_page}
use Rattle.release_list.specs.file_release.Releases.{with_given}
use Rattle.release_list.proofs.OfFileRelease.Given.{allocated_given, held_given}
use Rattle.release_list.specs.Standing.{IsStanding, place_in}
use Rattle.release_list.specs.Steps.{IsWell, Now}
use Rattle.release_list.proofs.Standings.{chain_by, each_from, low_home, stand_chain, standing}
use Rattle.release_steps.specs.Lists.{with_waiting_pages}
use Rattle.release_steps.specs.Waits.{StandsApart}

module _ (first : Now) (homes : List Home) (kind : PageUse) (group : ℕ) (pages : Pages) (well : IsWell first) (away : (home : Home) → Contains homes home → StandsApart first home) (others : (home : Home) → ¬ Contains homes home → pages home ≡ first.pages home) where
  abbrev given : Spaces
  given = with_given kind group homes first.space

  -- no page of a table changes
  same : (h : Home) → Contains (table_of first.cells h.vol) h.page → pages h ≡ first.pages h
  same h on = others h (λ inside. (away h inside).apart.off_table on)

  stand_still : (cs : List PlacedCell) → AreOnTables first.cells cs → AllByRecursion (λ (c : PlacedCell). StandsAt first.pages c.at c.cell) cs → AllByRecursion (λ (c : PlacedCell). StandsAt pages c.at c.cell) cs
  stand_still [] on stand = tt
  stand_still (c ∷ cs) on stand = (stands_by_page first.pages pages c.at c.cell (same (home_of c.at) on.0) stand.0, stand_still cs on.1 stand.1)

  each_still : (a : CellAt) (cs : List PlacedCell) → first.files a ≡ Some cs → IsStanding first.cells pages a cs
  each_still a cs is =
      let was = standing first.space first.cells first.pages first.files well.together a cs is in
      record { stands = chain_by first.pages pages a cs (stand_still cs was.on_tables (stand_chain first.pages a cs was.stands)) was.stands; on_tables = was.on_tables }

  kept : (other : Home) → 1 ≤ other.vol → ¬ Contains homes other → IsHeldApart first.space first.cells other → IsHeldApart given first.cells other
  kept other from apart is = record {
    held = held_given kind group homes first.space other (λ x inside. (away x inside).low) from apart is.held;
    off_table = is.off_table;
  }

  not_file : (a : CellAt) (p : ℕ) (other : Home) → place_in first.files a p ≡ At other → ¬ Contains homes other
  not_file a p other there inside = (away other inside).nowhere a p there

  pub all_given_well : IsWell (with_waiting_pages homes kind group pages first)
  all_given_well = record {
    together = record {
      allocated = allocated_beside given first.cells first.pages pages same
          (allocated_given kind group homes first.space first.cells first.pages (λ x inside. (away x inside).low) (λ x inside. (away x inside).apart.off_table) well.together.allocated);
      each = each_from first.cells pages first.files each_still;
      apart = well.together.apart;
      held = λ a p other there. kept other (low_home first.space first.cells first.pages first.files well.together a p other there) (not_file a p other there) (well.together.held a p other there);
      once = well.together.once;
      one_deep = well.together.one_deep;
    };
    listed = record {
      each = well.listed.each;
      once = well.listed.once;
      order = well.listed.order;
      pages_once = well.listed.pages_once;
      pages_low = well.listed.pages_low;
      pages_held = λ other inside. kept other (well.listed.pages_low other inside) (λ there. (away other there).not_listed inside) (well.listed.pages_held other inside);
      pages_apart = well.listed.pages_apart;
    };
  }
