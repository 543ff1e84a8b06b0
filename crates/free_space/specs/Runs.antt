-- Runs of free pages that are as long as they can be.
use Rattle.std.specs.Prelude.{◌≡◌, ◌⊎◌, ◌↔◌, ℕ, ◌+◌, ◌-◌, ◌==◌, ◌<◌, ◌≤◌, true, List, [], ◌∷◌, ◌++◌, Option, Contains, IsSomeAnd, if◌then◌else◌}
use Rattle.std.specs.List.{AllByRecursion}
use Rattle.std.specs.FinSet.{contains}
use Rattle.free_space.specs.Spaces.{Spaces, volume_of}
use Rattle.free_space.specs.VolumePages.{IsFreeRun, VolumePages}
use Rattle.free_space.specs.VolumeSpace.{VolumeSpace, volume_pages}
use Rattle.free_space.specs.declared.runs.FreeRun.{FreeRun}

-- `count` pages of a volume from a page on
abbrev pub run_at : ℕ → ℕ → ℕ → FreeRun
run_at vol page count = record { first = record { vol = vol; page = page }; count = count }

-- the pages before a page, if there are some
abbrev pub run_before : ℕ → ℕ → ℕ → List FreeRun
run_before vol end count = if count == 0 then [] else run_at vol (end - count) count ∷ []

-- free pages of a volume, one after the other, with no free page right before or after them
pub record IsWholeRun (m : VolumePages) (first count : ℕ) : Type 0 where
  pub some : 1 ≤ count
  pub free : IsFreeRun m first count
  pub front : (page : ℕ) → page + 1 ≡ first → contains m.used page ≡ true
  pub back : first + count < m.pages → contains m.used (first + count) ≡ true

-- a run stands before another: on an earlier volume, or on earlier pages of it
abbrev pub StandsBefore : FreeRun → FreeRun → Type 0
StandsBefore one other = (one.first.vol < other.first.vol)
    ⊎ ((one.first.vol ≡ other.first.vol) × (one.first.page < other.first.page))

-- each run stands before all that come after it
abbrev pub AreInOrder : List FreeRun → Type 0
AreInOrder [] = Unit {0}
AreInOrder (run ∷ runs) = AllByRecursion (StandsBefore run) runs × AreInOrder runs

-- a list has all runs of some kind, in order
pub record AreRuns (Is : FreeRun → Type 0) (runs : List FreeRun) : Type 0 where
  pub each : (run : FreeRun) → Contains runs run ↔ Is run
  pub order : AreInOrder runs

-- such a list was added after other runs
pub record AddsRuns (Is : FreeRun → Type 0) (old new : List FreeRun) : Type 0 where
  pub runs : List FreeRun
  pub behind : new ≡ old ++ runs
  pub are : AreRuns Is runs

-- a run is one of a volume with these pages; or of one that is there and open
abbrev pub IsRunIn : ℕ → VolumePages → FreeRun → Type 0
IsRunIn vol m run = (run.first.vol ≡ vol) × IsWholeRun m run.first.page run.count

-- a volume that is there and open has that run
abbrev pub IsRunOn : ℕ → Option VolumeSpace → FreeRun → Type 0
IsRunOn vol volume run =
    IsSomeAnd volume (λ v. (v.is_open ≡ true) × IsRunIn vol (volume_pages v) run)

-- it is one of a volume of a domain
abbrev pub IsRunOf : Spaces → FreeRun → Type 0
IsRunOf s run =
    (1 ≤ run.first.vol) × IsRunOn run.first.vol (volume_of s run.first.vol) run
