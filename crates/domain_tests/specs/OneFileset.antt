-- A domain of version 3 with one fileset, `a`, whose root directory has no row, byte by byte.
use Rattle.std.specs.Prelude.{◌==◌, ◌++◌, ℕ, List, [], ◌∷◌, if◌then◌else◌}
use Rattle.std.specs.FinMap.{empty, insert}
use Rattle.domain_making.specs.domain_base.Page.{zero_bytes}
use Rattle.domain_making.specs.domain_base.declared.version.Version.TheVariants.{Three}
use Rattle.domain_making.specs.volume_disk.Image.{Image}
use Rattle.domain_making.specs.fileset_model.Apply.{empty_fileset}
use Rattle.domain_making.specs.fileset_model.Filesets.{FilesetMap}
use Rattle.domain_making.specs.fileset_values.Orders.{Name}
use Rattle.domain_making.specs.fileset_model.declared.fileset.FilesetSlot.{FilesetSlot}
use Rattle.domain_making.specs.fileset_model.declared.fileset.Role.TheVariants.{Original}
use Rattle.domain_tests.specs.Written.{anchors_page, bitmap_with, image_with, label_page}

-- pages 0 to 133 are used
abbrev pub bitmap_page : List ℕ
bitmap_page = bitmap_with 0x3f

-- `BMTP`, index 0, no next page and 26 free cells; and the cell that says the volume
abbrev pub cells_front : List ℕ
cells_front =
    0x42 ∷ 0x4d ∷ 0x54 ∷ 0x50 ∷ 0 ∷ 0 ∷ 0 ∷ 0 ∷ 0 ∷ 0 ∷ 0 ∷ 0 ∷ 26 ∷ 0 ∷ 0 ∷ 0
    ∷ 0 ∷ 0 ∷ 0 ∷ 0 ∷ 0 ∷ 0 ∷ 0 ∷ 0 ∷ 0 ∷ 0 ∷ 0 ∷ 0 ∷ 0 ∷ 0 ∷ 0 ∷ 4 ∷ 16 ∷ 0 ∷ 0 ∷ 0
    ∷ 12 ∷ 0 ∷ 16 ∷ 0 ∷ 1 ∷ 0 ∷ 0 ∷ 0 ∷ 0 ∷ 2 ∷ 0 ∷ 0 ∷ 1 ∷ 0 ∷ 0 ∷ 0 ∷ []

-- a first cell of tag 1.1 of fileset 0 with 132 bytes of records: a directory of uid 0 and gid 0
-- that keeps 65,536 pages and has 1 link; no extent; and tag 1.1 as its parent
abbrev pub root_front : List ℕ
root_front =
    0 ∷ 0 ∷ 0 ∷ 0 ∷ 0 ∷ 0 ∷ 0 ∷ 0 ∷ 1 ∷ 0 ∷ 0 ∷ 0 ∷ 1 ∷ 0 ∷ 1 ∷ 1 ∷ 0x84 ∷ 0 ∷ 0 ∷ 0
    ∷ 1 ∷ 0 ∷ 52 ∷ 0 ∷ 2 ∷ 0 ∷ 0 ∷ 0 ∷ 0 ∷ 0 ∷ 0 ∷ 0 ∷ 0 ∷ 0 ∷ 0 ∷ 0 ∷ 0 ∷ 0 ∷ 0 ∷ 0
    ∷ 0 ∷ 0 ∷ 0 ∷ 0 ∷ 0 ∷ 0 ∷ 0 ∷ 0 ∷ 0 ∷ 0 ∷ 1 ∷ 0 ∷ 1 ∷ 0 ∷ 0 ∷ 0
    ∷ 0 ∷ 0 ∷ 0 ∷ 0 ∷ 0 ∷ 0 ∷ 0 ∷ 0 ∷ 0 ∷ 0 ∷ 0 ∷ 0 ∷ 0 ∷ 0 ∷ 0 ∷ 0
    ∷ 4 ∷ 0 ∷ 68 ∷ 0
    ∷ 0 ∷ 0 ∷ 0 ∷ 0 ∷ 0 ∷ 0 ∷ 0 ∷ 0 ∷ 0 ∷ 0 ∷ 0 ∷ 0 ∷ 0 ∷ 0 ∷ 0 ∷ 0
    ∷ 0 ∷ 0 ∷ 0 ∷ 0 ∷ 0 ∷ 0 ∷ 0 ∷ 0 ∷ 0 ∷ 0 ∷ 0 ∷ 0 ∷ 0 ∷ 0 ∷ 0 ∷ 0
    ∷ 0 ∷ 0 ∷ 0 ∷ 0 ∷ 0 ∷ 0 ∷ 0 ∷ 0 ∷ 0 ∷ 0 ∷ 0 ∷ 0 ∷ 0 ∷ 0 ∷ 0 ∷ 0
    ∷ 0 ∷ 0 ∷ 0 ∷ 0 ∷ 0 ∷ 0 ∷ 0 ∷ 0 ∷ 0 ∷ 0 ∷ 0 ∷ 0 ∷ 0 ∷ 0 ∷ 0 ∷ 0
    ∷ 10 ∷ 0 ∷ 12 ∷ 0 ∷ 1 ∷ 0 ∷ 0 ∷ 0 ∷ 1 ∷ 0 ∷ 0 ∷ 0 ∷ []

abbrev pub cells_page : List ℕ
cells_page = cells_front ++ (zero_bytes 256 ++ (root_front ++ zero_bytes 7732))

-- `FSTB`, no clone was made; and in slot 0 an original of one letter with its first tag page on
-- page 133 of volume 1, without limits and quota cells
abbrev pub table_front : List ℕ
table_front =
    0x46 ∷ 0x53 ∷ 0x54 ∷ 0x42 ∷ 0 ∷ 0 ∷ 0 ∷ 0 ∷ 0 ∷ 0 ∷ 0 ∷ 0 ∷ 0 ∷ 0 ∷ 0 ∷ 0
    ∷ 1 ∷ 1 ∷ 0x61 ∷ 0 ∷ 0 ∷ 0 ∷ 0 ∷ 0 ∷ 0 ∷ 0 ∷ 0 ∷ 0 ∷ 0 ∷ 0 ∷ 0 ∷ 0
    ∷ 0 ∷ 0 ∷ 0 ∷ 0 ∷ 0 ∷ 0 ∷ 0 ∷ 0 ∷ 0 ∷ 0 ∷ 0 ∷ 0 ∷ 0 ∷ 0 ∷ 0 ∷ 0
    ∷ 0 ∷ 0 ∷ 0 ∷ 0 ∷ 0 ∷ 0 ∷ 0 ∷ 0 ∷ 0 ∷ 0 ∷ 0 ∷ 0 ∷ 0 ∷ 0 ∷ 0 ∷ 0
    ∷ 0 ∷ 0 ∷ 0 ∷ 0 ∷ 0 ∷ 0 ∷ 0 ∷ 0 ∷ 1 ∷ 0 ∷ 0 ∷ 0 ∷ 0x85 ∷ 0 ∷ 0 ∷ 0 ∷ []

abbrev pub table_page : List ℕ
table_page = table_front ++ zero_bytes 8112

-- `TAGP`, index 0 and no next page; entry 0 is free, and entry 1 has sequence 1 and leads to cell 1
-- on page 3 of volume 1
abbrev pub tags_front : List ℕ
tags_front =
    0x54 ∷ 0x41 ∷ 0x47 ∷ 0x50 ∷ 0 ∷ 0 ∷ 0 ∷ 0 ∷ 0 ∷ 0 ∷ 0 ∷ 0 ∷ 0 ∷ 0 ∷ 0 ∷ 0
    ∷ 0 ∷ 0 ∷ 0 ∷ 0 ∷ 0 ∷ 0 ∷ 0 ∷ 0 ∷ 1 ∷ 0 ∷ 1 ∷ 1 ∷ 3 ∷ 0 ∷ 0 ∷ 0 ∷ []

abbrev pub tags_page : List ℕ
tags_page = tags_front ++ zero_bytes 8160

-- the pages by their numbers: all gates of the log are closed
abbrev pub page_of : ℕ → List ℕ
page_of number =
    if number == 0 then label_page Three
    else (if number == 1 then anchors_page Three
    else (if number == 2 then bitmap_page
    else (if number == 3 then cells_page
    else (if number == 132 then table_page
    else (if number == 133 then tags_page else zero_bytes 8192)))))

abbrev pub image_of : Image
image_of = image_with page_of

-- the fileset: its root has tag 1.1, which is number 65,537
abbrev pub name_a : Name
name_a = 0x61 ∷ []

abbrev pub fileset_a : FilesetSlot
fileset_a = record { tree = empty_fileset 65537; role = Original }

abbrev pub filesets : FilesetMap
filesets = insert empty name_a fileset_a
