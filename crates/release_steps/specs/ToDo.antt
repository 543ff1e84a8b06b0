-- How much is left to be let go of.
use Rattle.std.specs.Prelude.{◌+◌, ◌&&◌, ℕ, zero, suc, Bool, true, false, nat_le, List, is_some, length, sum_by, if◌then◌else◌}
use Rattle.std.specs.Option.{option_map_or}
use Rattle.release_list.specs.metadata_cells.Chain.{PlacedCell}
use Rattle.release_list.specs.extent_maps.declared.run.PagePlace.{PagePlace}
use Rattle.release_list.specs.extent_maps.declared.run.PagePlace.TheVariants.{Absent, At, Hole}
use Rattle.release_list.specs.file_chains.Files.{places_of}
use Rattle.release_list.specs.declared.list.Entry.{Entry}
use Rattle.release_list.specs.Listed.{stale_from}
use Rattle.release_list.specs.Standing.{Files}
use Rattle.release_list.specs.Steps.{Now}

-- a page that has a home or is kept as a hole
abbrev pub is_there : PagePlace → Bool
is_there (At home) = true
is_there Hole = true
is_there Absent = false

-- a page of an entry's file is there, and goes
abbrev pub goes : List PlacedCell → ℕ → Bool
goes chain page = nat_le (stale_from chain) page && is_there (places_of chain page)

-- for how many numbers below one this holds
unfoldable pub count_below : (ℕ → Bool) → ℕ → ℕ
count_below is zero = 0
count_below is (suc n) = (if is n then 1 else 0) + count_below is n

-- the cells of an entry's file, and its pages that go
abbrev pub left_in : List PlacedCell → ℕ
left_in chain = length chain + count_below (goes chain) 65536

-- an entry, its clone if one is given, and what is left of its file
abbrev pub left_of_entry : Files → Entry → ℕ
left_of_entry files entry =
    1 + (if is_some entry.clone then 1 else 0) + option_map_or left_in (files entry.at) 0

-- all that is left of the list
abbrev pub left_to_do : Now → ℕ
left_to_do now = sum_by (left_of_entry now.files) now.list.entries + length now.list.tag_pages
