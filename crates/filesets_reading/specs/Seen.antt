-- A file or directory that was read.
use Rattle.std.specs.Prelude.{◌≡◌, ◌≤◌, ℕ, List, length, Option, Some, None, IsSomeAnd, slice_get}
use Rattle.std.specs.Option.{option_and_then}
use Rattle.domain_layout.specs.domain_base.Limits.{file_pages}
use Rattle.domain_layout.specs.domain_base.declared.place.Home.{Home}
use Rattle.domain_layout.specs.extent_maps.Runs.{Places, home_at}
use Rattle.domain_layout.specs.Seen.{SeenFile}
use Rattle.filesets_reading.specs.declared.seen.SeenPages.{SeenPages}

-- the home of a page in a list, none after the last
abbrev pub home_in : List (Option Home) → ℕ → Option Home
home_in homes page = option_and_then (λ home. home) (slice_get homes page)

-- the list has the home of each page
abbrev pub ListsHomes : Places → List (Option Home) → Type 0
ListsHomes places homes = (page : ℕ) → home_in homes page ≡ home_at (places page)

-- no more homes than a file has pages
abbrev pub HasFewHomes : SeenPages → Type 0
HasFewHomes found = length found.homes.items ≤ file_pages

-- it is that file, with the home of each of its pages
pub record IsSeenAs (seen : SeenFile) (found : SeenPages) : Type 0 where
  pub is : found.is ≡ seen.is
  pub homes : (page : ℕ) → home_in found.homes.items page ≡ seen.homes page

-- nothing was found if there is no file, and else that file
abbrev pub IsSeenThere : Option SeenFile → Option SeenPages → Type 0
IsSeenThere None found = found ≡ None
IsSeenThere (Some seen) found = IsSomeAnd found (IsSeenAs seen)
