-- The records of a whole map.
use Rattle.std.specs.Prelude.{◌≡◌, ℕ, true, false, ◌≤◌, List, [], ◌∷◌, ◌++◌, take, drop, length}
use Rattle.std.specs.List.{AllByRecursion, flat_map}
use Rattle.cell_records.specs.domain_base.declared.version.Version.{Version}
use Rattle.extent_maps.specs.declared.run.RunPlace.{RunPlace}
use Rattle.extent_maps.specs.declared.run.RunPlace.TheVariants as place
use Rattle.extent_maps.specs.declared.run.Run.{Run}
use Rattle.cell_records.specs.declared.record.Record.{Record}
use Rattle.cell_records.specs.Records.{Allowed, kind_of}
use Rattle.extent_records.specs.Rows.{AreOneMap, IsMapOf, OnVolume, runs_in}
use Rattle.extent_records.specs.Writing.{IsMapRecord, chain_kind, hole_kind, is_of_holes, most_rows, rows_for, short_kind}

-- the run, if its pages have homes, and if they are holes
abbrev pub home_part : RunPlace → Run → List Run
home_part (place.At home) run = run ∷ []
home_part place.Holes run = []

abbrev pub hole_part : RunPlace → Run → List Run
hole_part (place.At home) run = []
hole_part place.Holes run = run ∷ []

-- the runs whose pages have homes, and those of holes
abbrev pub homes_in : List Run → List Run
homes_in = flat_map (λ run. home_part run.first run)

abbrev pub holes_in : List Run → List Run
holes_in = flat_map (λ run. hole_part run.first run)

-- a record of that kind whose rows are the runs
pub record HoldsRuns (kind : ℕ) (runs : List Run) (r : Record) : Type 0 where
  pub is_map : IsMapRecord r
  pub of_kind : kind_of r ≡ kind
  pub rows : runs_in r ≡ rows_for kind runs

-- records of that kind that hold the runs, each but the last as many as it has rows
abbrev pub Fills : ℕ → List Run → List Record → Type 0
Fills kind runs [] = runs ≡ []
Fills kind runs (r ∷ rs) = (1 ≤ length runs) × HoldsRuns kind (take (most_rows kind) runs) r
    × Fills kind (drop (most_rows kind) runs) rs

-- The records of a map: that of the primary cell, then those of extents and those of holes of the
-- chain's cells, each but the last of a sort full.
pub record ListsMap (version : Version) (map : List Run) (records : List Record) : Type 0 where
  pub short : Record
  pub chain : List Record
  pub kept : List Record
  pub list : records ≡ short ∷ (chain ++ kept)
  pub first : HoldsRuns (short_kind version)
      (take (most_rows (short_kind version)) (homes_in map)) short
  pub extents : Fills (chain_kind version)
      (drop (most_rows (short_kind version)) (homes_in map)) chain
  pub holes : Fills hole_kind (holes_in map) kept

-- ** What the functions within the crate ask and answer

-- the run's pages are on one of the volumes 1 to 8
abbrev pub HasHome : RunPlace → Type 0
HasHome (place.At home) = OnVolume (place.At home)
HasHome place.Holes = ⊥

abbrev pub AllHomes : List Run → Type 0
AllHomes = AllByRecursion (λ (run : Run). HasHome run.first)

-- one record more, which holds the runs
pub record AddsOne (kind : ℕ) (runs : List Run) (old new : List Record) : Type 0 where
  pub more : Record
  pub list : new ≡ old ++ more ∷ []
  pub holds : HoldsRuns kind runs more

-- records more, which they fill
pub record AddsAll (kind : ℕ) (runs : List Run) (old new : List Record) : Type 0 where
  pub more : List Record
  pub list : new ≡ old ++ more
  pub fills : Fills kind runs more

-- more records, filled by the runs that come first; the records of the runs that are left come
-- after them
pub record AddsFirst (kind : ℕ) (runs rest : List Run) (old new : List Record) : Type 0 where
  pub more : List Record
  pub list : new ≡ old ++ more
  pub fills : (others : List Record) → Fills kind rest others → Fills kind runs (more ++ others)

-- a record of a chain's cell, with no more rows than those that a version writes
pub record IsOfChain (version : Version) (r : Record) : Type 0 where
  pub allowed : Allowed r
  pub rows : most_rows (kind_of r) ≤ most_rows (chain_kind version)
  pub holes : is_of_holes (kind_of r) ≡ true → most_rows (kind_of r) ≤ most_rows hole_kind

-- Records that say a map, as cells of a file can have them: one of extents of the primary cell, and
-- any of chain cells.
pub record SaysMap (version : Version) (map : List Run) (records : List Record) : Type 0 where
  pub short : Record
  pub chain : List Record
  pub list : records ≡ short ∷ chain
  pub allowed : Allowed short
  pub rows : most_rows (kind_of short) ≤ most_rows (short_kind version)
  pub extents : is_of_holes (kind_of short) ≡ false
  pub each : AllByRecursion (IsOfChain version) chain
  pub one_map : AreOneMap records
  pub same : IsMapOf records map

-- records that say a map, and no others that do are fewer
pub record IsLeastList (version : Version) (map : List Run) (records : List Record) : Type 0 where
  pub says : SaysMap version map records
  pub least : (others : List Record) → SaysMap version map others
      → length records ≤ length others
