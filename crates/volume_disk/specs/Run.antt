-- Runs of calls: what they have changed, and what a stop since their start may leave.
use Rattle.std.specs.Prelude.{◌≡◌, ◌≢◌, ◌⊎◌, ℕ, ◌+◌, ◌<◌, ◌≤◌, false, IsTrue, List, [], ◌∷◌, length, Result, Ok, Err}
use Rattle.volume_disk.specs.Disk.{Disk, Moment, MayLeave, Since, Tells, raised_at}
use Rattle.volume_disk.specs.Image.{Image, Places, AreBytes, HasBytes, IsIn, NoPlace, SameOutside}

-- an image that a stop at this moment may leave, with any bytes in these places
abbrev pub MayLeaveTorn : Places → Moment → Image → Type 0
MayLeaveTorn places moment image =
    (before : Image) × MayLeave moment before × SameOutside places before image × AreBytes image

-- a stop at any moment since old leaves an image that has P
pub record LeavesOnly (old new : Disk) (P : Image → Type 0) : Type 0 where
  pub later : old.calls ≤ new.calls
  pub each : (image : Image) → Since new old.calls image → P image
  -- for a run that began earlier
  pub before : (t : ℕ) (image : Image) → t ≤ old.calls → Since new t image
      → Since old t image ⊎ P image

-- n calls were made, or more: the clock has gone on by them
abbrev pub IsLaterBy : ℕ → Disk → Disk → Type 0
IsLaterBy n old new = old.calls + n ≤ new.calls

-- no more than n calls were made
abbrev pub IsAtMost : ℕ → Disk → Disk → Type 0
IsAtMost n old new = new.calls ≤ old.calls + n

-- A run of calls that has changed nothing but these places. What a stop since its start may leave
-- is what one at its start might have left, with any bytes there. It may have read anything, and
-- synced any volume.
pub record Touches (old new : Disk) (places : Places) : Type 0 where
  pub sizes : new.sizes ≡ old.sizes
  pub told : new.told ≡ old.told
  pub kept : new.kept ≡ old.kept
  pub later : old.calls ≤ new.calls
  pub read_faults : (v : ℕ) → old.read_faults v ≤ new.read_faults v
  pub write_faults : (v : ℕ) → old.write_faults v ≤ new.write_faults v
  pub contents : Tells old → SameOutside places old.now.contents new.now.contents
  pub synced : Tells old → (v k : ℕ) → ¬ places v k
      → old.now.unsynced v k ≡ false → new.now.unsynced v k ≡ false
  pub tears : Tells old → LeavesOnly old new (MayLeaveTorn places old.now)
  -- what a stop might have left before, it may have left still
  pub keeps : Tells old → IsTrue old.kept
      → (t : ℕ) (image : Image) → Since old t image → Since new t image

-- runs of calls: each begins where the one before it ended, and touches these places alone
abbrev pub TouchesEach : Places → Disk → List Disk → Type 0
TouchesEach places disk [] = Unit {0}
TouchesEach places disk (next ∷ more) = Touches disk next places × TouchesEach places next more

-- the disk at which they end
abbrev pub end_of : Disk → List Disk → Disk
end_of disk [] = disk
end_of disk (next ∷ more) = end_of next more

-- a run of calls that wrote and synced nothing
pub record OnlyReads (old new : Disk) : Type 0 where
  pub touches : Touches old new NoPlace
  pub write_faults : new.write_faults ≡ old.write_faults
  pub now : Tells old → new.now ≡ old.now

-- a run of calls that read nothing, and wrote in these places alone
pub record OnlyWrites (old new : Disk) (places : Places) : Type 0 where
  pub touches : Touches old new places
  pub read_faults : new.read_faults ≡ old.read_faults

-- the bytes are written from `at` on, and the volume is synced
pub record Settles (vol at : ℕ) (bytes : List ℕ) (old new : Moment) : Type 0 where
  pub written : HasBytes vol at bytes new.contents
  pub outside : SameOutside (IsIn vol at (length bytes)) old.contents new.contents
  pub here : (k : ℕ) → new.unsynced vol k ≡ false
  pub elsewhere : (v k : ℕ) → v ≢ vol → new.unsynced v k ≡ old.unsynced v k

-- nothing is pending on the volumes below this one
abbrev pub IsSettledBelow : ℕ → Moment → Type 0
IsSettledBelow vol moment = (v k : ℕ) → v < vol → moment.unsynced v k ≡ false

-- at Ok no read has failed, and else one of the volume that the error names, and no other
abbrev pub NamesReadFault : {T : Type 0} → Disk → Disk → Result T ℕ → Type 0
NamesReadFault old new (Ok _) = new.read_faults ≡ old.read_faults
NamesReadFault old new (Err vol) = new.read_faults ≡ raised_at old.read_faults vol

-- at Ok no write or sync has failed, and else one of the volume that the error names, and no other
abbrev pub NamesWriteFault : {T : Type 0} → Disk → Disk → Result T ℕ → Type 0
NamesWriteFault old new (Ok _) = new.write_faults ≡ old.write_faults
NamesWriteFault old new (Err vol) = new.write_faults ≡ raised_at old.write_faults vol
