-- Volumes that are written down page by page: one of 512 pages, with the log on pages 4 to 131 and
-- the fileset table on page 132.
use Rattle.std.specs.Prelude.{◌==◌, ◌++◌, ◌/◌, ◌%◌, ℕ, List, [], ◌∷◌, Some, if◌then◌else◌, replicate, slice_index}
use Rattle.domain_making.specs.domain_base.Gate.{opened}
use Rattle.domain_making.specs.domain_base.Page.{zero_bytes}
use Rattle.domain_making.specs.domain_base.Version.{number_of}
use Rattle.domain_making.specs.domain_base.declared.version.Version.{Version}
use Rattle.domain_making.specs.volume_disk.Image.{Image}
use Rattle.domain_making.specs.disk_label.Body.{no_member}
use Rattle.domain_making.specs.disk_label.declared.anchor.Anchor.{Anchor}
use Rattle.domain_making.specs.domain_layout.Reached.{Frame}

-- `n` bytes, each bit of them 1
unfoldable pub full_bytes : ℕ → List ℕ
full_bytes n = replicate n 0xff

-- a bitmap page: pages 0 to 127 are used, those of the bits of one byte more, and after page 511
-- the volume has none
abbrev pub bitmap_with : ℕ → List ℕ
bitmap_with part = full_bytes 16 ++ (part ∷ (zero_bytes 47 ++ full_bytes 8128))

-- the volume with these pages, by their numbers, and no other
abbrev pub image_with : (ℕ → List ℕ) → Image
image_with pages vol at =
    if vol == 1 then slice_index (pages (at / 8192)) (at % 8192) else 0

-- ** Its first two pages

-- `ADVFSLAB`, the version, volume 1, 512 pages, one page of bitmap
abbrev pub label_front : Version → List ℕ
label_front version =
    0x41 ∷ 0x44 ∷ 0x56 ∷ 0x46 ∷ 0x53 ∷ 0x4c ∷ 0x41 ∷ 0x42
    ∷ number_of version ∷ 0 ∷ 0 ∷ 0 ∷ 1 ∷ 0 ∷ 0 ∷ 0 ∷ 0 ∷ 2 ∷ 0 ∷ 0 ∷ 1 ∷ 0 ∷ 0 ∷ 0 ∷ []

abbrev pub label_page : Version → List ℕ
label_page version = label_front version ++ zero_bytes 8168

-- number 1, the version, volume 1, pages 4 to 131, place 0, group 1, the table on page 132 of
-- volume 1, and the members: the first has 512 pages and is open, and there is no other
abbrev pub anchor_front : Version → List ℕ
anchor_front version =
    1 ∷ 0 ∷ 0 ∷ 0 ∷ 0 ∷ 0 ∷ 0 ∷ 0 ∷ number_of version ∷ 0 ∷ 0 ∷ 0 ∷ 1 ∷ 0 ∷ 0 ∷ 0
    ∷ 4 ∷ 0 ∷ 0 ∷ 0 ∷ 0x80 ∷ 0 ∷ 0 ∷ 0 ∷ 0 ∷ 0 ∷ 0 ∷ 0 ∷ 0 ∷ 0 ∷ 0 ∷ 0
    ∷ 1 ∷ 0 ∷ 0 ∷ 0 ∷ 0 ∷ 0 ∷ 0 ∷ 0 ∷ 1 ∷ 0 ∷ 0 ∷ 0 ∷ 0x84 ∷ 0 ∷ 0 ∷ 0
    ∷ 0 ∷ 2 ∷ 0 ∷ 0 ∷ 1 ∷ 0 ∷ 0 ∷ 0 ∷ 0 ∷ 0 ∷ 0 ∷ 0 ∷ 0 ∷ 0 ∷ 0 ∷ 0
    ∷ 0 ∷ 0 ∷ 0 ∷ 0 ∷ 0 ∷ 0 ∷ 0 ∷ 0 ∷ 0 ∷ 0 ∷ 0 ∷ 0 ∷ 0 ∷ 0 ∷ 0 ∷ 0
    ∷ 0 ∷ 0 ∷ 0 ∷ 0 ∷ 0 ∷ 0 ∷ 0 ∷ 0 ∷ 0 ∷ 0 ∷ 0 ∷ 0 ∷ 0 ∷ 0 ∷ 0 ∷ 0
    ∷ 0 ∷ 0 ∷ 0 ∷ 0 ∷ 0 ∷ 0 ∷ 0 ∷ 0 ∷ 0 ∷ 0 ∷ 0 ∷ 0 ∷ 0 ∷ 0 ∷ 0 ∷ 0 ∷ []

-- an open gate, the anchor, and a closed gate after which nothing stands
abbrev pub anchors_page : Version → List ℕ
anchors_page version = opened ++ (anchor_front version ++ zero_bytes 7568)

-- ** What it says

abbrev pub anchor_of : Version → Anchor
anchor_of version = record {
  number = 1;
  version = number_of version;
  log_vol = 1;
  log_page = 4;
  log_pages = 128;
  start = 0;
  group = 1;
  table = Some (record { vol = 1; page = 132 });
  members =
      record { pages = 512; state = 1 } ∷ no_member ∷ no_member ∷ no_member ∷ no_member ∷ no_member
      ∷ no_member
      ∷ no_member ∷ [];
  slot = 0;
}

abbrev pub frame_of : Version → Frame
frame_of version = record { anchor = anchor_of version; version = version }
