-- The versions of a domain's layout.
use Rattle.std.specs.Prelude.{ℕ}
use Rattle.std.specs.Int.{div_ceil}
use Rattle.domain_base.specs.Limits.{max_volume_pages, max_volume_pages_4}
use Rattle.domain_base.specs.declared.version.Version.{Version}
use Rattle.domain_base.specs.declared.version.Version.TheVariants.{Three, Four}

-- the number that stands for it
abbrev pub number_of : Version → ℕ
number_of Three = 3
number_of Four = 4

-- the pages of a volume at most
abbrev pub most_pages : Version → ℕ
most_pages Three = max_volume_pages
most_pages Four = max_volume_pages_4

-- the pages of the bitmap of a volume with `pages` pages: a page of bitmap has a bit for each of
-- 65,536
abbrev pub bitmap_pages : Version → ℕ → ℕ
bitmap_pages Three pages = 1
bitmap_pages Four pages = div_ceil pages 65536
