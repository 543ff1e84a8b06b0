-- The pages of one volume with a page of cells and a page of tags, and no file.
use Rattle.std.specs.Prelude.{◌≡◌, ◌≤◌, ℕ, true, false, List, [], ◌∷◌, Some, None}
use Rattle.std.specs.FinSet.{empty, insert}
use Rattle.index_pages.specs.domain_base.declared.place.Home.{Home}
use Rattle.index_pages.specs.page_store.Pages.{Pages}
use Rattle.index_pages.specs.free_space.VolumePages.{VolumePages}
use Rattle.index_pages.specs.free_cells.Belong.{Belong, LeadsTo}
use Rattle.index_pages.specs.free_cells.Cells.{Cells, is_closed, table_of}
use Rattle.index_pages.specs.tag_dirs.declared.dir.TagPlace.{TagPlace}
use Rattle.index_pages.specs.tag_dirs.Directory.{has_home}
use Rattle.index_pages.specs.free_space.VolumeSpace.{added}
use Rattle.index_pages.specs.free_space.Spaces.{Spaces, no_spaces, with_volume}
use Rattle.index_pages.specs.fileset_files.Together.{AreTogether}

abbrev pub home_at : ℕ → Home
home_at page = record { vol = 1; page = page }

-- `count` pages, the first three used
abbrev pub first_map : ℕ → VolumePages
first_map count = record { pages = count; used = insert (insert (insert empty 0) 1) 2 }

-- a volume of these pages
abbrev pub first_space : ℕ → Spaces
first_space count = with_volume (Some (added (first_map count))) no_spaces 1

-- the volume has page 1 for its table, and no other has one
pub record AreFirst (cells : Cells) (pages : Pages) : Type 0 where
  pub belong : Belong cells pages
  pub one : table_of cells 1 ≡ 1 ∷ []
  pub others : (vol : ℕ) → ¬ vol ≡ 1 → table_of cells vol ≡ []
  pub opened : (vol : ℕ) → is_closed cells vol ≡ false
  pub ends : LeadsTo cells 1 pages 0

-- no tag names a file, and each page of the tag directory stands on a volume
pub record IsEmpty (fileset : ℕ) (places : List TagPlace) (space : Spaces) (cells : Cells)
    (pages : Pages) : Type 0 where
  pub together : AreTogether fileset places space cells pages (λ tag. None)
  pub low : (home : Home) → has_home places home ≡ true → 1 ≤ home.vol
