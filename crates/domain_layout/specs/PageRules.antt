-- The rules of files' pages and of bitmaps, if the pages of tables stand as they should.
use Rattle.std.specs.Prelude.{◌≡◌, ◌⊎◌, ◌+◌, ◌*◌, ◌<◌, ◌≤◌, ◌↔◌, ℕ, true, Some, List}
use Rattle.file_release.specs.domain_base.Version.{bitmap_pages}
use Rattle.file_release.specs.domain_base.declared.place.CellAt.{CellAt}
use Rattle.file_release.specs.domain_base.declared.place.Home.{Home}
use Rattle.file_release.specs.page_store.Pages.{Pages}
use Rattle.file_release.specs.free_space.Bits.{is_set}
use Rattle.log_recovery.specs.log_ring.Homes.{IsMember, member_of}
use Rattle.file_release.specs.metadata_cells.CellPage.{home_of}
use Rattle.domain_layout.specs.Layout.{Layout}
use Rattle.domain_layout.specs.Owners.{BelongsTo, HasExtent, IsOwned, Owner, frame_of}
use Rattle.domain_layout.specs.Owners.Owner.{of_file}
use Rattle.domain_layout.specs.Reached.{MayBe}

-- a cell says that a page of its file stands where none may, or where another owner's page is or
-- another page of a file: code 7
pub record IsWrongExtent (pages : Pages) (layout : Layout) (at : CellAt) : Type 0 where
  pub page : ℕ
  pub home : Home
  pub has : HasExtent pages layout at page home
  pub wrong : ¬ MayBe (frame_of layout) home
      ⊎ ((owner : Owner) × BelongsTo pages layout owner home × ¬ owner ≡ of_file at page)

abbrev pub IsExtentFault : Pages → Layout → Home → Type 0
IsExtentFault pages layout home =
    (at : CellAt) × (home_of at ≡ home) × IsWrongExtent pages layout at

-- a bit of a bitmap page is 1 where the page has no owner, or 0 where it has one or is none of the
-- volume's: code 8
pub record IsBitmapFault (pages : Pages) (layout : Layout) (home : Home) : Type 0 where
  pub member : IsMember layout.anchor home.vol
  pub number : ℕ
  pub within : number < bitmap_pages layout.version (member_of layout.anchor home.vol).pages
  pub at : home.page ≡ 2 + number
  pub bytes : List ℕ
  pub there : pages home ≡ Some bytes
  pub bit : ℕ
  pub some : bit < 65536
  pub wrong : ¬ ((is_set bytes bit ≡ true)
      ↔ (IsOwned pages layout (record { vol = home.vol; page = 65536 * number + bit })
      ⊎ ((member_of layout.anchor home.vol).pages ≤ 65536 * number + bit)))
