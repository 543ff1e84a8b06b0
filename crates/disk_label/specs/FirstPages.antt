-- The first pages of a volume, by what they are for. These places stand nowhere else.
use Rattle.std.specs.Prelude.{◌+◌, ◌*◌, ℕ}
use Rattle.volume_disk.specs.domain_base.Limits.{log_pages, page_bytes}
use Rattle.volume_disk.specs.domain_base.Version.{bitmap_pages}
use Rattle.volume_disk.specs.domain_base.declared.version.Version.{Version}
use Rattle.disk_label.specs.declared.first_pages.FirstPages.{FirstPages}

-- the page of a volume's label, and the one of its two anchors
abbrev pub label_page : ℕ
label_page = 0

-- the page of both anchors
abbrev pub anchors_page : ℕ
anchors_page = 1

-- the first byte of a slot of anchors, which is its gate's
abbrev pub gate_byte : ℕ → ℕ
gate_byte slot = page_bytes * anchors_page + 4096 * slot

-- The first pages of a volume of `pages` pages: label, anchors, the bitmap's pages and the first
-- page of mcells. Where a domain is made, the log follows, and then the table of filesets.
abbrev pub first_pages : Version → ℕ → FirstPages
first_pages version pages =
    let bitmap = bitmap_pages version pages in
    record {
      label = label_page;
      anchors = anchors_page;
      bitmap = 2;
      cells = 2 + bitmap;
      log = 3 + bitmap;
      table = 3 + bitmap + log_pages;
    }
