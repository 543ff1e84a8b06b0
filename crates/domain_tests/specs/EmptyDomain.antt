-- A domain without filesets, byte by byte.
use Rattle.std.specs.Prelude.{◌==◌, ◌++◌, ℕ, List, [], ◌∷◌, if◌then◌else◌}
use Rattle.domain_making.specs.domain_base.Page.{zero_bytes}
use Rattle.domain_making.specs.domain_base.declared.version.Version.{Version}
use Rattle.domain_making.specs.volume_disk.Image.{Image}
use Rattle.domain_tests.specs.Written.{anchors_page, bitmap_with, image_with, label_page}

-- pages 0 to 132 are used
abbrev pub bitmap_page : List ℕ
bitmap_page = bitmap_with 0x1f

-- `BMTP`, index 0, no next page and 27 free cells; and a cell of kind 4 with 16 bytes of records,
-- which say volume 1, 512 pages and one page of bitmap
abbrev pub cells_front : List ℕ
cells_front =
    0x42 ∷ 0x4d ∷ 0x54 ∷ 0x50 ∷ 0 ∷ 0 ∷ 0 ∷ 0 ∷ 0 ∷ 0 ∷ 0 ∷ 0 ∷ 27 ∷ 0 ∷ 0 ∷ 0
    ∷ 0 ∷ 0 ∷ 0 ∷ 0 ∷ 0 ∷ 0 ∷ 0 ∷ 0 ∷ 0 ∷ 0 ∷ 0 ∷ 0 ∷ 0 ∷ 0 ∷ 0 ∷ 4 ∷ 16 ∷ 0 ∷ 0 ∷ 0
    ∷ 12 ∷ 0 ∷ 16 ∷ 0 ∷ 1 ∷ 0 ∷ 0 ∷ 0 ∷ 0 ∷ 2 ∷ 0 ∷ 0 ∷ 1 ∷ 0 ∷ 0 ∷ 0 ∷ []

abbrev pub cells_page : List ℕ
cells_page = cells_front ++ zero_bytes 8140

-- `FSTB`, no clone was made, and free slots
abbrev pub table_front : List ℕ
table_front =
    0x46 ∷ 0x53 ∷ 0x54 ∷ 0x42 ∷ 0 ∷ 0 ∷ 0 ∷ 0 ∷ 0 ∷ 0 ∷ 0 ∷ 0 ∷ 0 ∷ 0 ∷ 0 ∷ 0 ∷ []

abbrev pub table_page : List ℕ
table_page = table_front ++ zero_bytes 8176

-- the pages by their numbers: all gates of the log are closed
abbrev pub page_of : Version → ℕ → List ℕ
page_of version number =
    if number == 0 then label_page version
    else (if number == 1 then anchors_page version
    else (if number == 2 then bitmap_page
    else (if number == 3 then cells_page
    else (if number == 132 then table_page else zero_bytes 8192))))

abbrev pub image_of : Version → Image
image_of version = image_with (page_of version)
