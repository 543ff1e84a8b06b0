-- Limits stay set where pages that are none of cells are written.
use Rattle.std.proofs.Common.{◌≡◌, ◌∙◌, ℕ, List, [], ◌∷◌, Option, Contains, refl, ap}
use Rattle.release_list.specs.domain_base.declared.place.CellAt.{CellAt}
use Rattle.release_list.specs.domain_base.declared.place.Home.{Home}
use Rattle.release_list.specs.page_store.Pages.{Pages}
use Rattle.release_list.specs.metadata_cells.Cell.{Cell}
use Rattle.release_list.specs.metadata_cells.CellPage.{cell_at, home_of}
use Rattle.release_list.specs.metadata_cells.Chain.{PlacedCell, StandsAt}
use Rattle.release_list.specs.free_cells.Cells.{table_of}
use Rattle.release_list.specs.file_chains.FileChanges.{AreOnTables}
use Rattle.release_list.proofs.OfFilesetFiles.Created.{allocated_beside}
use Rattle.release_list.proofs.OfFilesetFiles.OneChain.{follow_by}
use Rattle.release_list.specs.file_release.Steps.{AllStand}
use Rattle.quota_book.specs.fileset_values.declared.command.Owner.{Owner}
use Rattle.quota_book.specs.fileset_model.declared.fileset.Limits.{Limits}
use Rattle.quota_book.specs.QuotaCells.{touched}
use Rattle.release_list.specs.Standing.{IsQuotas}
use Rattle.release_list.specs.Steps.{Now}
use Rattle.release_steps.specs.QuotaChain.{said_in}
use Rattle.release_steps.proofs.Chains.{quotas_stand}
use Rattle.release_steps.specs.Setting.{SetsIn}
use Rattle.release_steps.proofs.AllWell.{tables_grow}

quotas_by : (old new : Pages) (at : CellAt) (cs : List PlacedCell) → AllStand new cs → IsQuotas old at cs → IsQuotas new at cs
quotas_by old new at [] stand is = is
quotas_by old new at (first ∷ rest) stand is = (
  is.0,
  record {
    links = record { stands = stand.0; follow = follow_by new old first.cell.head rest stand.1 is.1.links.follow; distinct = is.1.links.distinct };
    cells = is.1.cells;
  },
)

module _ (fileset prefer : ℕ) (who : Owner) (limits : Limits) (first : Option CellAt) (old mid : Now) (pages : Pages) (s : SetsIn fileset prefer who limits first old mid)
    (same : (home : Home) → Contains (table_of mid.cells home.vol) home.page → pages home ≡ mid.pages home) where
  stands : (q : CellAt) (cell : Cell) → Contains (table_of mid.cells q.vol) q.page → StandsAt mid.pages q cell → StandsAt pages q cell
  stands q cell on is = record {
    bytes = is.bytes;
    there = ap (λ (o : Option (List ℕ)). cell_at (λ (h : Home). o) q) (same (home_of q) on) ∙ is.there;
    is = is.is;
  }

  all_stand : (cs : List PlacedCell) → AreOnTables mid.cells cs → AllStand mid.pages cs → AllStand pages cs
  all_stand [] on stand = tt
  all_stand (c ∷ cs) on stand = (stands c.at c.cell on.0 stand.0, all_stand cs on.1 stand.1)

  pub still_set : SetsIn fileset prefer who limits first old (record mid { pages = pages })
  still_set = record {
    chain = s.chain;
    is = s.is;
    among = s.among;
    start = s.start;
    begins = s.begins;
    sets = record {
      after = s.sets.after;
      is = quotas_by mid.pages pages s.start s.sets.after (all_stand s.sets.after s.sets.on_tables (quotas_stand mid.pages s.start s.sets.after s.sets.is)) s.sets.is;
      said = s.sets.said;
      once = s.sets.once;
      filesets = s.sets.filesets;
      on_tables = s.sets.on_tables;
      kept = s.sets.kept;
      joined = s.sets.joined;
      handed = s.sets.handed;
    };
    taken = s.taken;
    others = λ q cell stood on apart. stands q cell (tables_grow fileset prefer who limits first old mid s (touched (said_in s.chain) who) s.taken q.vol q.page on) (s.others q cell stood on apart);
    allocated = allocated_beside mid.space mid.cells mid.pages pages same s.allocated;
    files = s.files;
    list = s.list;
  }

  -- the chain begins where it did
  pub still_starts : still_set.start ≡ s.start
  unfolding still_set
  still_starts = refl
