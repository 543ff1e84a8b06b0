-- Pages of one kind that lead from one to the next, and which of them are read.
use Rattle.std.specs.Prelude.{◌≡◌, ◌==◌, ◌⊎◌, ◌<◌, ◌++◌, ℕ, Bool, true, List, [], ◌∷◌, length, Option, Some, None, IsSomeAnd, Contains, nat_le, if◌then◌else◌}
use Rattle.std.specs.Option.{option_and_then}
use Rattle.file_release.specs.domain_base.declared.place.Home.{Home}
use Rattle.file_release.specs.domain_base.declared.version.Version.{Version}
use Rattle.file_release.specs.page_store.Pages.{Pages}
use Rattle.file_release.specs.cell_records.Fields.{number_at}
use Rattle.log_recovery.specs.disk_label.FirstPages.{first_pages}
use Rattle.log_recovery.specs.disk_label.declared.anchor.Anchor.{Anchor}
use Rattle.log_recovery.specs.log_ring.Homes.{IsLogPage, IsMember, member_of}
use Rattle.file_release.specs.metadata_cells.CellPage.{is_cell_page, next_of}
use Rattle.file_release.specs.tag_dirs.TagPage.{next_of as next_home}

-- the anchor that counts, and the version that it says
pub record Frame : Type 0 where
  pub anchor : Anchor
  pub version : Version

-- the first page of cells of a volume: label, anchors and bitmap stand before it
abbrev pub first_cells : Frame → ℕ → ℕ
first_cells frame vol = (first_pages frame.version (member_of frame.anchor vol).pages).cells

-- a page of a member, and one of label, anchors, bitmap or log
abbrev pub IsWithin : Frame → Home → Type 0
IsWithin frame home = IsMember frame.anchor home.vol
    × (home.page < (member_of frame.anchor home.vol).pages)

abbrev pub IsReserved : Frame → Home → Type 0
IsReserved frame home = (home.page < first_cells frame home.vol) ⊎ IsLogPage frame.anchor home

-- a page that tables and files may have
abbrev pub MayBe : Frame → Home → Type 0
MayBe frame home = IsWithin frame home × ¬ IsReserved frame home

-- a kind of pages: how they begin, what one leads to, and the first of them
pub record Way : Type 0 where
  pub begins_so : List ℕ → Bool
  pub next : Home → List ℕ → Option Home
  pub first : Home

-- from the first page on, the pages that are read, and the one that is come to
pub data Reaches (pages : Pages) (frame : Frame) (way : Way) : List Home → Home → Type 0 where
  begins : Reaches pages frame way [] way.first
  goes_on : (passed : List Home) (home onto : Home) (page : List ℕ)
      → Reaches pages frame way passed home → MayBe frame home → ¬ Contains passed home
      → pages home ≡ Some page → way.begins_so page ≡ true → way.next home page ≡ Some onto
      → Reaches pages frame way (passed ++ home ∷ []) onto

-- the page at this place is read: it may be there, is come to for the first time, and begins as the
-- way asks
pub record IsRead (pages : Pages) (frame : Frame) (way : Way) (place : ℕ) (home : Home)
    (page : List ℕ) : Type 0 where
  pub passed : List Home
  pub reached : Reaches pages frame way passed home
  pub may : MayBe frame home
  pub fresh : ¬ Contains passed home
  pub there : pages home ≡ Some page
  pub begins : way.begins_so page ≡ true
  pub at : length passed ≡ place

-- a page is come to that is not read
pub record IsUnread (pages : Pages) (frame : Frame) (way : Way) (home : Home) : Type 0 where
  pub passed : List Home
  pub reached : Reaches pages frame way passed home
  pub wrong : ¬ MayBe frame home ⊎ Contains passed home
      ⊎ ¬ IsSomeAnd (pages home) (λ page. way.begins_so page ≡ true)

-- ** The kinds

-- the pages of cells of a volume; page 0 is no next one
abbrev pub cells_way : Frame → ℕ → Way
cells_way frame vol = record {
  begins_so = is_cell_page;
  next = λ home page. if next_of page == 0 then None
      else Some (record { vol = home.vol; page = next_of page });
  first = record { vol = vol; page = first_cells frame vol };
}

-- a next page is on a volume that there may be
abbrev pub on_volume : Option Home → Option Home
on_volume next = option_and_then (λ home. if nat_le home.vol 8 then Some home else None) next

-- the pages of a tag directory, and of an index, that begins at a home
abbrev pub tags_way : Home → Way
tags_way first = record {
  begins_so = λ page. number_at 4 0 page == 0x50474154;
  next = λ home page. on_volume (next_home page);
  first = first;
}

abbrev pub index_way : Home → Way
index_way first = record {
  begins_so = λ page. number_at 4 0 page == 0x58524944;
  next = λ home page. on_volume (next_home page);
  first = first;
}
