-- Pages of files as records say them, on whatever volume and page that is.
use Rattle.std.specs.Prelude.{◌≡◌, ◌*◌, ◌<◌, ◌↔◌, ℕ, List, map, Option, None, IsSome, slice_get}
use Rattle.std.specs.Option.{option_and_then, option_map, option_map_or}
use Rattle.index_row_faults.specs.domain_base.declared.place.Home.{Home}
use Rattle.index_row_faults.specs.extent_maps.Runs.{Places, home_at}
use Rattle.index_row_faults.specs.extent_maps.declared.run.PagePlace.{PagePlace}
use Rattle.index_row_faults.specs.extent_maps.declared.run.PagePlace.TheVariants.{At, Hole, Absent}
use Rattle.index_row_faults.specs.extent_maps.declared.run.RunPlace.{RunPlace}
use Rattle.index_row_faults.specs.extent_maps.declared.run.RunPlace.TheVariants as place
use Rattle.index_row_faults.specs.extent_maps.declared.run.Run.{Run}
use Rattle.slot_files.specs.declared.said.SaidFirst.{SaidFirst}
use Rattle.slot_files.specs.declared.said.SaidFirst.TheVariants as first
use Rattle.slot_files.specs.declared.said.SaidHome.{SaidHome}
use Rattle.slot_files.specs.declared.said.SaidPlace.{SaidPlace}
use Rattle.slot_files.specs.declared.said.SaidPlace.TheVariants as said
use Rattle.slot_files.specs.declared.said.SaidRun.{SaidRun}

-- as the definitions of files have them, for which a volume and a page are any numbers
abbrev pub home_there : SaidHome → Home
home_there home = record { vol = home.vol; page = home.page }

-- a place that a record says, as the definitions of files have it
abbrev pub place_there : SaidPlace → PagePlace
place_there (said.At home) = At (home_there home)
place_there said.Hole = Hole
place_there said.Absent = Absent

-- the first page of a run that a record says
abbrev pub first_there : SaidFirst → RunPlace
first_there (first.At vol page) = place.At (record { vol = vol; page = page })
first_there first.Holes = place.Holes

-- a run that a record says
abbrev pub run_there : SaidRun → Run
run_there run =
    record { page = run.page; count = run.count; first = first_there run.first }

abbrev pub runs_there : List SaidRun → List Run
runs_there runs = map run_there runs

-- a home that a record says, or none
abbrev pub home_said : Option SaidHome → Option Home
home_said home = option_map home_there home

-- the place of a page in a list, absent after the last
abbrev pub place_in : List SaidPlace → ℕ → PagePlace
place_in places page = option_map_or place_there (slice_get places page) Absent

-- the list has the place of each page
abbrev pub ListsPlaces : Places → List SaidPlace → Type 0
ListsPlaces places listed = (page : ℕ) → place_in listed page ≡ places page

-- the home of a page in a list, none after the last
abbrev pub said_in : List (Option SaidHome) → ℕ → Option Home
said_in homes page = option_and_then home_said (slice_get homes page)

-- two pages have a home
abbrev pub HasTwo : List (Option SaidHome) → Type 0
HasTwo homes = (one : ℕ) × (other : ℕ) × (¬ one ≡ other) × IsSome (said_in homes one)
    × IsSome (said_in homes other)

-- ** Sizes

-- the pages below a number, and no others, have a home
abbrev pub HasFirst : List (Option SaidHome) → ℕ → Type 0
HasFirst homes count = (page : ℕ) → IsSome (said_in homes page) ↔ (page < count)

-- they do for no number of pages that has this size
abbrev pub HasGap : List (Option SaidHome) → ℕ → Type 0
HasGap homes size = ¬ ((count : ℕ) × (size ≡ 8192 * count) × HasFirst homes count)

-- a page has a place at a home, and none among the homes
abbrev pub IsLostAt : List SaidPlace → List (Option SaidHome) → ℕ → Type 0
IsLostAt places homes page =
    IsSome (home_at (place_in places page)) × (said_in homes page ≡ None)

-- one does
abbrev pub LosesPage : List SaidPlace → List (Option SaidHome) → Type 0
LosesPage places homes = (page : ℕ) × IsLostAt places homes page
