-- The records that say a map: how many rows each kind has, and which record is written.
use Rattle.std.specs.Prelude.{◌≡◌, ℕ, ◌<◌, ◌≤◌, ◌-◌, ◌==◌, ◌||◌, ◌↔◌, Bool, IsTrue, true, false, List, [], ◌∷◌, ◌++◌, length, map, get_or, replicate, Option, Some, None, if◌then◌else◌, nat_le, nat_lt}
use Rattle.std.specs.List.{flat_map, AllByRecursion}
use Rattle.cell_records.specs.domain_base.declared.version.Version.{Version}
use Rattle.cell_records.specs.domain_base.declared.version.Version.TheVariants.{Three, Four}
use Rattle.extent_maps.specs.declared.run.PagePlace.{PagePlace}
use Rattle.extent_maps.specs.declared.run.PagePlace.TheVariants.{At, Hole, Absent}
use Rattle.extent_maps.specs.declared.run.RunPlace.{RunPlace}
use Rattle.extent_maps.specs.declared.run.RunPlace.TheVariants as place
use Rattle.extent_maps.specs.declared.run.Run.{Run}
use Rattle.extent_maps.specs.Runs.{IsRun, Places, end_of, front_of, place_of, placed, rest_from}
use Rattle.cell_records.specs.declared.record.Record.{Record}
use Rattle.cell_records.specs.declared.record.ExtentField.{ExtentField}
use Rattle.cell_records.specs.declared.record.HoleField.{HoleField}
use Rattle.cell_records.specs.Records.{Allowed, kind_of}
use Rattle.extent_records.specs.Rows.{IsPlaced, NoPageTwice, OnVolume, runs_in}

-- how many rows a record of that kind has: none where its fields are others
abbrev pub rows_each : List ℕ
rows_each = 0 ∷ 0 ∷ 0 ∷ 16 ∷ 4 ∷ 16 ∷ 0 ∷ 0 ∷ 0 ∷ 0 ∷ 0 ∷ 0 ∷ 0 ∷ 22 ∷ 4 ∷ []

-- how many rows a record of a kind has, none if its fields are others
abbrev pub most_rows : ℕ → ℕ
most_rows kind = get_or rows_each kind 0

-- the rows of that kind are dense
abbrev pub is_dense : ℕ → Bool
is_dense kind = (kind == 13) || (kind == 14)

-- how many pages a row of a record of that kind has at most: the count of a dense row has two bytes
abbrev pub most_pages : ℕ → ℕ
most_pages kind = if is_dense kind then 65535 else 65536

-- the kind of a primary cell's record of extents, and of a chain's cell's, as a version writes them
abbrev pub short_kind : Version → ℕ
short_kind Three = 4
short_kind Four = 14

-- the kind of a chain cell's record of extents, as a version writes it
abbrev pub chain_kind : Version → ℕ
chain_kind Three = 3
chain_kind Four = 13

-- the kind of a record of holes
abbrev pub hole_kind : ℕ
hole_kind = 5

-- the kind that the last version writes in place of a kind: that of dense extents for plain ones
abbrev pub dense_kind : ℕ → ℕ
dense_kind kind =
    if kind == chain_kind Three then chain_kind Four
    else (if kind == short_kind Three then short_kind Four else kind)

-- the rows of that kind are holes
abbrev pub is_of_holes : ℕ → Bool
is_of_holes kind = kind == hole_kind

-- a record whose rows say where pages stand, each page once, as the format allows it
pub record IsMapRecord (r : Record) : Type 0 where
  pub has_rows : 1 ≤ most_rows (kind_of r)
  pub allowed : Allowed r
  pub placed : AllByRecursion IsPlaced (runs_in r)
  pub once : NoPageTwice (runs_in r)

-- where a record's rows have each page
abbrev pub places_in : Record → Places
places_in r = place_of (runs_in r)

-- the places of the pages before one
abbrev pub places_before : ℕ → Places → Places
places_before from places page = if nat_lt page from then places page else Absent

-- the places of the pages from one on
abbrev pub places_from : ℕ → Places → Places
places_from from places page = if nat_lt page from then Absent else places page

-- a record of that kind, as the format allows it, that has each page at its place
pub record SaysPlaces (kind : ℕ) (places : Places) (r : Record) : Type 0 where
  pub of_kind : kind_of r ≡ kind
  pub allowed : Allowed r
  pub same : (page : ℕ) → places_in r page ≡ places page

-- some record of that kind does
abbrev pub CanSay : ℕ → Places → Type 0
CanSay kind places = (r : Record) × SaysPlaces kind places r

-- a record of that kind that has each page at its place, in as few rows as can be
pub record IsLeastRecord (kind : ℕ) (places : Places) (r : Record) : Type 0 where
  pub is_map : IsMapRecord r
  pub says : SaysPlaces kind places r
  pub least : (other : Record) → SaysPlaces kind places other
      → length (runs_in r) ≤ length (runs_in other)

-- a call that gave the pages of a record these places, or answered that no record of its kind has
-- them there
pub record Rewrites (places : Places) (old new : Record) (done : Bool) : Type 0 where
  pub fits : IsTrue done ↔ CanSay (kind_of old) places
  pub written : IsTrue done → IsLeastRecord (kind_of old) places new
  pub kept : done ≡ false → new ≡ old
  pub is_map : IsMapRecord new
  pub same_kind : kind_of new ≡ kind_of old

-- ** What the functions within the crate ask and answer

-- a page's place that a record of that kind can have
abbrev pub Suits : ℕ → PagePlace → Type 0
Suits kind Absent = Unit {0}
Suits kind (At home) = (is_of_holes kind ≡ false) × OnVolume (place.At home)
Suits kind Hole = is_of_holes kind ≡ true

abbrev pub AllSuit : ℕ → List Run → Type 0
AllSuit kind = AllByRecursion (λ (run : Run). Suits kind (placed run.first))

-- a run as rows of at most this number of pages: two rows if it has more
abbrev pub pieces : ℕ → Run → List Run
pieces most run =
    if nat_le run.count most then run ∷ [] else front_of most run ∷ rest_from most run ∷ []

-- runs as the rows of a record: a run that has more pages than a row is two
abbrev pub parts : ℕ → List Run → List Run
parts most = flat_map (pieces most)

-- the rows of the runs of a record of that kind
abbrev pub rows_for : ℕ → List Run → List Run
rows_for kind = parts (most_pages kind)

abbrev pub no_extent : ExtentField
no_extent = record { page = 0; count = 0; vol = 0; first = 0 }

abbrev pub no_hole : HoleField
no_hole = record { page = 0; count = 0 }

abbrev pub extent_with : ℕ → ℕ → RunPlace → ExtentField
extent_with page count (place.At home) = record {
  page = page;
  count = count;
  vol = home.vol;
  first = home.page;
}
extent_with page count place.Holes = no_extent

-- the row of a run: none of a hole's where rows are of extents
abbrev pub extent_of : Run → ExtentField
extent_of run = extent_with run.page run.count run.first

abbrev pub hole_of : Run → HoleField
hole_of run = record { page = run.page; count = run.count }

-- n rows, the first of them those of the runs
abbrev pub filled : {X : Type 0} → (Run → X) → X → ℕ → List Run → List X
filled row none n runs = map row runs ++ replicate (n - length runs) none

-- a record of that kind with these rows, or none if they are more than it has
pub record HasRows (kind : ℕ) (rows : List Run) (r : Record) : Type 0 where
  pub of_kind : kind_of r ≡ kind
  pub allowed : Allowed r
  pub says : runs_in r ≡ rows

-- the record of a kind with these rows, or none if it has no room for them
abbrev pub IsRecordOf : ℕ → List Run → Option Record → Type 0
IsRecordOf kind rows (Some r) = HasRows kind rows r
IsRecordOf kind rows None = most_rows kind < length rows

-- a run that can be a row of a record of that kind, after those that end at that page
pub record IsRow (kind from : ℕ) (run : Run) : Type 0 where
  pub is_run : IsRun run
  pub begins : from ≤ run.page
  pub short : run.count ≤ most_pages kind
  pub suits : Suits kind (placed run.first)

-- runs that can be its rows, each after the one before it
abbrev pub AreRowsFrom : ℕ → ℕ → List Run → Type 0
AreRowsFrom kind from [] = Unit {0}
AreRowsFrom kind from (run ∷ runs) = IsRow kind from run × AreRowsFrom kind (end_of run) runs
