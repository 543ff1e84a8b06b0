-- A page stands where a fileset has one of a file.
use Rattle.std.proofs.Common.{◌≡◌, ℕ, List, Some, IsSome, IsSomeAnd}
use Rattle.filesets_reading.specs.domain_base.declared.place.Home.{Home}
use Rattle.filesets_reading.specs.domain_base.declared.place.Tag.{Tag}
use Rattle.filesets_reading.specs.page_store.Pages.{Pages}
use Rattle.filesets_reading.specs.metadata_cells.Chain.{PlacedCell}
use Rattle.filesets_reading.specs.fileset_table.Page.{IsTablePage}
use Rattle.filesets_reading.specs.domain_layout.DirectoryRules.{Has}
use Rattle.filesets_reading.specs.domain_layout.Faults.{SaysTable}
use Rattle.filesets_reading.specs.domain_layout.Layout.{IsLayout, Layout}
use Rattle.filesets_reading.specs.domain_layout.Owners.{frame_of}
use Rattle.filesets_reading.specs.domain_layout.Reached.{MayBe}
use Rattle.filesets_reading.specs.domain_layout.Seen.{SeenFile}
use Rattle.filesets_reading.proofs.OfDomainLayout.OnePage.{one_of}
use Rattle.fileset_shapes.specs.Found.{HasAllPages}

module _ (pages : Pages) (layout : Layout) (laid : IsLayout pages layout) where
  pub says_table : SaysTable pages (frame_of layout) layout.table
  says_table =
      let said = one_of layout.anchor.table (λ home. IsSomeAnd (pages home) (λ page. IsTablePage page layout.table)) laid.table in
      record { home = said.value; at = said.there; there = said.is }

  pub page_held : HasAllPages pages (frame_of layout) → (number : ℕ) (tag : Tag) (cells : List PlacedCell) (seen : SeenFile) → Has pages layout.table number tag cells seen → (page : ℕ) (home : Home) → seen.homes page ≡ Some home → MayBe (frame_of layout) home → IsSome (pages home)
  page_held all number tag cells seen has page home at may = all layout.table says_table number tag cells seen has page home at may.0
