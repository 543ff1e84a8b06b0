-- The label of a volume. Its fields stand in the first 24 bytes of its page; the other bytes are
-- zero where it is written, and are not read.
use Rattle.std.specs.List.{flat_map}
use Rattle.std.specs.Prelude.{◌≡◌, ◌*◌, ◌≤◌, ℕ, List, [], ◌∷◌, ◌++◌, replicate, Option, Some, None}
use Rattle.byteorder.specs.Endian.{little_bytes}
use Rattle.volume_disk.specs.domain_base.Limits.{block_bytes, page_bytes}
use Rattle.volume_disk.specs.domain_base.Version.{bitmap_pages, number_of}
use Rattle.volume_disk.specs.domain_base.declared.version.Version.{Version}
use Rattle.volume_disk.specs.Image.{Image, bytes_at}
use Rattle.disk_label.specs.Body.{word_at}
use Rattle.disk_label.specs.FirstPages.{label_page}
use Rattle.disk_label.specs.declared.label.Label.{Label}

-- the block of a volume that has its label
abbrev pub label_block : Image → ℕ → List ℕ
label_block image vol = bytes_at image vol (page_bytes * label_page) block_bytes

-- a block is this label of this volume, which has at least the pages that the label says:
-- `ADVFSLAB`, the version, the volume, the pages in use and those of the bitmap
pub record IsLabel (most vol : ℕ) (label : Label) (block : List ℕ) : Type 0 where
  pub magic_low : word_at block 0 ≡ 0x46564441
  pub magic_high : word_at block 1 ≡ 0x42414c53
  pub version : word_at block 2 ≡ number_of label.version
  pub volume : word_at block 3 ≡ vol
  pub pages : word_at block 4 ≡ label.pages
  pub there : label.pages ≤ most
  pub bitmap : word_at block 5 ≡ bitmap_pages label.version label.pages

-- what is read of it
abbrev pub IsLabelOf : ℕ → ℕ → List ℕ → Option Label → Type 0
IsLabelOf most vol block None = (label : Label) → ¬ IsLabel most vol label block
IsLabelOf most vol block (Some label) = IsLabel most vol label block

-- the page of a volume with its label
unfoldable pub label_bytes : ℕ → ℕ → Version → List ℕ
label_bytes vol pages version =
    flat_map (little_bytes 4)
    (0x46564441 ∷ 0x42414c53 ∷ number_of version ∷ vol ∷ pages ∷ bitmap_pages version pages ∷ [])
    ++ replicate 8168 0
