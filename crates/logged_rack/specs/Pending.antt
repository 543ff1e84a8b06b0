-- What always holds of a logged rack, and which pages may be written in place.
use Rattle.std.specs.Prelude.{◌≡◌, ◌+◌, ◌++◌, ◌<◌, ℕ, zero, suc, Bool, false, List, slice_index_or, if◌then◌else◌}
use Rattle.meta_log.specs.domain_base.declared.place.Home.{Home}
use Rattle.meta_log.specs.volume_disk.Disk.{Disk, Moment, Tells}
use Rattle.meta_log.specs.log_ring.Homes.{HasMembers, IsLoggable}
use Rattle.meta_log.specs.log_ring.Ring.{IsRing}
use Rattle.meta_log.specs.log_ring.Settling.{HasHome}
use Rattle.meta_log.specs.Log.{Log}

-- whether a volume is marked, by the marks of the volumes from 1 on
abbrev pub marks_of : List Bool → ℕ → Bool
marks_of marked zero = false
marks_of marked (suc at) = slice_index_or marked at false

-- nothing is pending on a volume that is not marked
abbrev pub PendsOn : (ℕ → Bool) → Moment → Type 0
PendsOn marks moment = (v k : ℕ) → marks v ≡ false → moment.unsynced v k ≡ false

-- no volume below this one is marked
abbrev pub AreUnmarkedBelow : ℕ → (ℕ → Bool) → Type 0
AreUnmarkedBelow vol marks = (v : ℕ) → v < vol → marks v ≡ false

-- how many volumes below this one are marked
unfoldable pub marked_below : (ℕ → Bool) → ℕ → ℕ
marked_below marks zero = 0
marked_below marks (suc vol) = marked_below marks vol + (if marks vol then 1 else 0)

-- the ring and the members of the log lie in the rack, and all that is pending is on marked volumes
pub record IsSound (disk : Disk) (log : Log) (marks : ℕ → Bool) : Type 0 where
  pub ring : IsRing disk.sizes log.anchor
  pub members : HasMembers disk.sizes log.anchor
  pub pends : Tells disk → PendsOn marks disk.now

-- a page may be written in place: it might be logged, and the log has no image of it
pub record MayWriteHome (log : Log) (home : Home) : Type 0 where
  pub loggable : IsLoggable log.anchor home
  pub unlogged : ¬ HasHome (log.logged ++ log.pending) home
