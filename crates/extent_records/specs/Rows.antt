-- Where a file's pages stand by the rows of its records.
use Rattle.std.specs.Prelude.{◌≡◌, ℕ, ◌+◌, ◌≤◌, ◌==◌, ◌↔◌, Bool, IsTrue, List, [], ◌∷◌, ◌++◌, if◌then◌else◌}
use Rattle.std.specs.List.{flat_map, AllByRecursion}
use Rattle.cell_records.specs.domain_base.Limits.{max_volumes}
use Rattle.extent_maps.specs.declared.run.PagePlace.{PagePlace}
use Rattle.extent_maps.specs.declared.run.PagePlace.TheVariants.{At, Hole, Absent}
use Rattle.extent_maps.specs.declared.run.RunPlace.{RunPlace}
use Rattle.extent_maps.specs.declared.run.RunPlace.TheVariants as place
use Rattle.extent_maps.specs.declared.run.Run.{Run}
use Rattle.extent_maps.specs.Runs.{IsRun, SamePlaces, covers, place_of}
use Rattle.cell_records.specs.declared.record.Record.{Record}
use Rattle.cell_records.specs.declared.record.Record.TheVariants.{Extents, ShortExtents, Holes, DenseExtents, ShortDense}
use Rattle.cell_records.specs.declared.record.ExtentField.{ExtentField}
use Rattle.cell_records.specs.declared.record.HoleField.{HoleField}

-- the pages that a row names
abbrev pub run_of : ExtentField → Run
run_of e = record {
  page = e.page;
  count = e.count;
  first = place.At (record { vol = e.vol; page = e.first });
}

-- the pages that a row of a hole names
abbrev pub hole_run : HoleField → Run
hole_run h = record { page = h.page; count = h.count; first = place.Holes }

-- the pages that a row names if it is used: a row of no pages is not
abbrev pub runs_at : ExtentField → List Run
runs_at e = if e.count == 0 then [] else run_of e ∷ []

-- the run of a row of holes that is used, and none of one that is not
abbrev pub holes_at : HoleField → List Run
holes_at h = if h.count == 0 then [] else hole_run h ∷ []

-- the runs of a record's used rows: a record of another kind has none
abbrev pub runs_in : Record → List Run
runs_in (Extents rows) = flat_map runs_at rows
runs_in (ShortExtents rows) = flat_map runs_at rows
runs_in (DenseExtents rows) = flat_map runs_at rows
runs_in (ShortDense rows) = flat_map runs_at rows
runs_in (Holes rows) = flat_map holes_at rows
runs_in _ = []

-- the runs of a chain's records
abbrev pub runs_of : List Record → List Run
runs_of records = flat_map runs_in records

-- in how many of the runs a page is
abbrev pub times : List Run → ℕ → ℕ
times [] page = 0
times (run ∷ runs) page = (if covers run page then 1 else 0) + times runs page

-- no page is in two of the runs
abbrev pub NoPageTwice : List Run → Type 0
NoPageTwice runs = (page : ℕ) → times runs page ≤ 1

-- a run's first page is on one of the volumes 1 to 8, or the run is a hole
abbrev pub OnVolume : RunPlace → Type 0
OnVolume (place.At home) = (1 ≤ home.vol) × (home.vol ≤ max_volumes)
OnVolume place.Holes = Unit {0}

-- pages of a file that are holes, or stand at pages that one of the volumes 1 to 8 can have
pub record IsPlaced (run : Run) : Type 0 where
  pub is_run : IsRun run
  pub volume : OnVolume run.first

-- records that say one place at most of each page
pub record AreOneMap (records : List Record) : Type 0 where
  pub placed : AllByRecursion IsPlaced (runs_of records)
  pub once : NoPageTwice (runs_of records)

-- the map has each page where the records have it
abbrev pub IsMapOf : List Record → List Run → Type 0
IsMapOf records map = (page : ℕ) → place_of map page ≡ place_of (runs_of records) page

-- how many pages are at a place: none at an absent one
abbrev pub there : PagePlace → ℕ
there Absent = 0
there (At home) = 1
there Hole = 1

-- the runs can be put where the other runs are
pub record HaveRoom (runs old : List Run) : Type 0 where
  pub placed : AllByRecursion IsPlaced runs
  pub once : (page : ℕ) → there (place_of old page) + times runs page ≤ 1

-- a call that put the runs, or answered that there was no room
pub record Puts (runs old new : List Run) (put : Bool) : Type 0 where
  pub room : IsTrue put ↔ HaveRoom runs old
  pub places : IsTrue put → SamePlaces (old ++ runs) new
