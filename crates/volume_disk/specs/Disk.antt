-- A rack as a value: what its volumes hold, what a stop may leave of them, and how each call
-- changes both.
use Rattle.std.specs.Prelude.{◌≡◌, ◌≢◌, ◌⊎◌, ◌==◌, ◌&&◌, ◌^◌, ℕ, zero, suc, ◌+◌, ◌-◌, ◌*◌, ◌%◌, ◌<◌, ◌≤◌, nat_lt, if◌then◌else◌, Bool, true, false, IsTrue, List, length, slice_index}
use Rattle.domain_base.specs.Counts.{raised}
use Rattle.domain_base.specs.Limits.{max_volumes}
use Rattle.volume_disk.specs.Image.{Image, AreBytes, IsIn, SameOutside, HasBytes, bytes_at}

-- what a read gives, and the places where a stop may leave any byte
pub record Moment : Type 0 where
  pub contents : Image
  pub unsynced : ℕ → ℕ → Bool

-- `told` says whether the rack tells what it holds, `kept` whether it tells the moments of before
-- too. Time is the number of calls, and `past t` is the moment after call t. A call whose number is
-- in `fails` has to fail.
pub record Disk : Type 0 where
  pub calls : ℕ
  pub sizes : List ℕ
  pub read_faults : ℕ → ℕ
  pub write_faults : ℕ → ℕ
  pub fails : ℕ → Bool
  pub told : Bool
  pub now : Moment
  pub kept : Bool
  pub past : ℕ → Moment

-- the pages of a volume, and 0 if the rack has no such volume
abbrev pub volume_pages : List ℕ → ℕ → ℕ
volume_pages sizes zero = 0
volume_pages sizes (suc v) = slice_index sizes v

-- the rack tells what it holds
abbrev pub Tells : Disk → Type 0
Tells disk = IsTrue disk.told

-- a volume of the rack
abbrev pub HasVolume : Disk → ℕ → Type 0
HasVolume disk vol = (1 ≤ vol) × (vol ≤ length disk.sizes)

-- n bytes from this block on are one or more whole blocks of a volume of the rack
pub record AreBlocks (disk : Disk) (vol block n : ℕ) : Type 0 where
  pub in_rack : HasVolume disk vol
  pub whole : n % 512 ≡ 0
  pub some : 0 < n
  pub within : 512 * block + n ≤ 8192 * volume_pages disk.sizes vol

-- What a stop leaves.

-- a stop at this moment may leave this image: any bytes, but what a read gives where that is synced
pub record MayLeave (moment : Moment) (image : Image) : Type 0 where
  pub synced : (v k : ℕ) → moment.unsynced v k ≡ false → image v k ≡ moment.contents v k
  pub bytes : AreBytes image

-- a stop right after some call of before, at or after call t, may have left this image
pub record MayHaveLeft (disk : Disk) (t : ℕ) (image : Image) : Type 0 where
  pub kept : IsTrue disk.kept
  pub call : ℕ
  pub since : t ≤ call
  pub before : call < disk.calls
  pub left : MayLeave (disk.past call) image

-- a stop at some moment at or after call t may leave this image
abbrev pub Since : Disk → ℕ → Image → Type 0
Since disk t image = ((t ≤ disk.calls) × MayLeave disk.now image) ⊎ MayHaveLeft disk t image

-- the moment after call t
abbrev pub moment_at : Disk → ℕ → Moment
moment_at disk t = if t == disk.calls then disk.now else disk.past t

-- nothing is pending: a stop leaves what a read gives
abbrev pub IsSettled : Moment → Type 0
IsSettled moment = (v k : ℕ) → moment.unsynced v k ≡ false

-- nothing is pending but on volumes of the rack that have a number
abbrev pub PendsWithin : Disk → Type 0
PendsWithin disk =
    (v k : ℕ) → disk.now.unsynced v k ≡ true → HasVolume disk v × (v ≤ max_volumes)

-- Counts.

-- what each volume has, with this at one of them
abbrev pub put_at : {X : Type 0} → (ℕ → X) → ℕ → X → ℕ → X
put_at each vol x v = if v == vol then x else each v

-- the counts of all volumes, that of one raised
abbrev pub raised_at : (ℕ → ℕ) → ℕ → ℕ → ℕ
raised_at counts vol = put_at counts vol (raised (counts vol))

-- a call now need not fail
abbrev pub MayPass : Disk → Type 0
MayPass disk = (disk.calls < 2 ^ 64 - 1) × (disk.fails (disk.calls + 1) ≡ false)

-- Calls.

-- the moments of before, and the one that ends with the next call
abbrev pub remembered : Disk → ℕ → Moment
remembered disk t =
    let is_now = disk.kept && (t == disk.calls) && nat_lt t (2 ^ 64 - 1) in
    if is_now then disk.now else disk.past t

-- one call has been made: it leaves these counts of faults and, if the rack tells it, this moment
pub record Makes (old new : Disk) (reads writes : ℕ → ℕ) (moment : Moment) : Type 0 where
  pub calls : new.calls ≡ raised old.calls
  pub read_faults : new.read_faults ≡ reads
  pub write_faults : new.write_faults ≡ writes
  pub sizes : new.sizes ≡ old.sizes
  pub fails : new.fails ≡ old.fails
  pub told : new.told ≡ old.told
  pub kept : new.kept ≡ old.kept
  pub now : Tells old → new.now ≡ moment
  pub past : Tells old → new.past ≡ remembered old

-- n bytes from `at` on may have any values after a stop, and bytes outside are as they were
pub record MayTear (vol at n : ℕ) (old new : Moment) : Type 0 where
  pub contents : SameOutside (IsIn vol at n) old.contents new.contents
  pub unsynced : (v k : ℕ) → ¬ IsIn vol at n v k → new.unsynced v k ≡ old.unsynced v k
  pub still : (v k : ℕ) → old.unsynced v k ≡ true → new.unsynced v k ≡ true
  pub known : (v k : ℕ) → new.unsynced v k ≡ false → new.contents v k ≡ old.contents v k

-- the bytes are written from `at` on, and none of them is synced
pub record Writes (vol at : ℕ) (bytes : List ℕ) (old new : Moment) : Type 0 where
  pub tears : MayTear vol at (length bytes) old new
  pub written : HasBytes vol at bytes new.contents
  pub pending : (v k : ℕ) → IsIn vol at (length bytes) v k → new.unsynced v k ≡ true

-- a volume is synced: a stop leaves what a read of it gives
pub record Syncs (vol : ℕ) (old new : Moment) : Type 0 where
  pub contents : new.contents ≡ old.contents
  pub here : (k : ℕ) → new.unsynced vol k ≡ false
  pub elsewhere : (v k : ℕ) → v ≢ vol → new.unsynced v k ≡ old.unsynced v k

-- a read that is done, which gives these bytes
pub record ReadDone (old new : Disk) (vol at n : ℕ) (out : List ℕ) : Type 0 where
  pub makes : Makes old new old.read_faults old.write_faults old.now
  pub bytes : Tells old → out ≡ bytes_at old.now.contents vol at n
  pub passed : MayPass old

-- a read that failed
abbrev pub ReadFailed : Disk → Disk → ℕ → Type 0
ReadFailed old new vol = Makes old new (raised_at old.read_faults vol) old.write_faults old.now

-- a write that is done
pub record WriteDone (old new : Disk) (vol at : ℕ) (bytes : List ℕ) : Type 0 where
  pub makes : Makes old new old.read_faults old.write_faults new.now
  pub writes : Tells old → Writes vol at bytes old.now new.now
  pub passed : MayPass old

-- a write of n bytes that failed
pub record WriteFailed (old new : Disk) (vol at n : ℕ) : Type 0 where
  pub makes : Makes old new old.read_faults (raised_at old.write_faults vol) new.now
  pub tears : Tells old → MayTear vol at n old.now new.now

-- a sync that is done
pub record SyncDone (old new : Disk) (vol : ℕ) : Type 0 where
  pub makes : Makes old new old.read_faults old.write_faults new.now
  pub syncs : Tells old → Syncs vol old.now new.now
  pub passed : MayPass old

-- a sync that failed
abbrev pub SyncFailed : Disk → Disk → ℕ → Type 0
SyncFailed old new vol = Makes old new old.read_faults (raised_at old.write_faults vol) old.now
