-- A domain that is as rules of pages ask beside that it stands.
use Rattle.std.specs.Prelude.{◌≡◌, ◌⊎◌, true, Contains, IsSomeAnd}
use Rattle.domain_standing.specs.domain_base.declared.place.CellAt.{CellAt}
use Rattle.domain_standing.specs.domain_base.declared.place.Home.{Home}
use Rattle.domain_standing.specs.metadata_cells.Cell.{Cell}
use Rattle.domain_standing.specs.metadata_cells.declared.head.CellKind.TheVariants.{Chain}
use Rattle.domain_standing.specs.directory_pages.Index.{IsIndexPage}
use Rattle.domain_standing.specs.release_list.Standing.{Files}
use Rattle.domain_standing.specs.domain_layout.CellRules.{is_chain_records}
use Rattle.domain_standing.specs.domain_layout.Owners.{IsOnTable}
use Rattle.domain_standing.specs.domain_layout.Reached.{IsWithin}
use Rattle.domain_standing.specs.Chains.{IndexesAt}
use Rattle.domain_standing.specs.Domain.{DomainNow, layout_of}
use Rattle.domain_standing.specs.Holders.{Holder, Holds}
use Rattle.standing_laws.specs.Leads.{StandsBelow}

-- each page that is held for something is one of a member's, where that is neither the log nor the
-- first pages of volumes, which other rules know; a cell after the first of a file has a record
-- that it may have; and each page of an index is well formed, whosever that is
pub record StandsSound (d : DomainNow) (files : Files) (indexes : IndexesAt) : Type 0 where
  pub within : (home : Home) (holder : Holder) → ¬ holder ≡ Holder.of_volume
      → ¬ holder ≡ Holder.of_log → Holds d files indexes holder home → IsWithin d.frame home
  pub laters : (at : CellAt) (cell : Cell) → IsOnTable d.pages (layout_of d) at cell
      → cell.head.kind ≡ Chain → is_chain_records cell.records ≡ true
  pub good : (at : CellAt) (home : Home) → Contains (indexes at) home
      → IsSomeAnd (d.pages home) IsIndexPage

-- the same, but of files that begin at some cells it is not asked that the pages of their indexes
-- are well formed
pub record StandsSoundBut (apart : CellAt → Type 0) (d : DomainNow) (files : Files)
    (indexes : IndexesAt) : Type 0 where
  pub within : (home : Home) (holder : Holder) → ¬ holder ≡ Holder.of_volume
      → ¬ holder ≡ Holder.of_log → Holds d files indexes holder home → IsWithin d.frame home
  pub laters : (at : CellAt) (cell : Cell) → IsOnTable d.pages (layout_of d) at cell
      → cell.head.kind ≡ Chain → is_chain_records cell.records ≡ true
  pub good : (at : CellAt) (home : Home) → Contains (indexes at) home
      → apart at ⊎ IsSomeAnd (d.pages home) IsIndexPage

-- with some files and indexes it stands, but for its filesets, and is so
pub record IsSound (d : DomainNow) : Type 0 where
  pub files : Files
  pub indexes : IndexesAt
  pub below : StandsBelow d files indexes
  pub sound : StandsSound d files indexes
