-- The bits of a volume's bitmap, on its pages.
use Rattle.std.specs.Prelude.{◌+◌, ◌/◌, ◌%◌, ℕ, Bool, false}
use Rattle.std.specs.Option.{option_map_or}
use Rattle.metadata_cells.specs.domain_base.declared.place.Home.{Home}
use Rattle.metadata_cells.specs.page_store.Pages.{Pages}
use Rattle.free_space.specs.Bits.{is_set}

-- the page of a volume's bitmap that has the bit of a page
abbrev pub bitmap_home : ℕ → ℕ → Home
bitmap_home vol page = record { vol = vol; page = 2 + page / 65536 }

-- that bit is 1
abbrev pub is_marked : Pages → ℕ → ℕ → Bool
is_marked pages vol page =
    option_map_or (λ bytes. is_set bytes (page % 65536)) (pages (bitmap_home vol page)) false
