-- How what is pending becomes a durable group.
use Rattle.std.specs.Prelude.{◌≡◌, ◌⊎◌, ◌+◌, ◌++◌, ℕ, false, List, [], ◌∷◌, length, drop}
use Rattle.log_ring.specs.domain_base.Limits.{block_bytes}
use Rattle.log_ring.specs.volume_disk.Disk.{Disk, Moment, Tells}
use Rattle.log_ring.specs.volume_disk.Image.{Image, IsIn, Places}
use Rattle.log_ring.specs.volume_disk.Run.{LeavesOnly, OnlyWrites}
use Rattle.log_ring.specs.disk_label.declared.anchor.Anchor.{Anchor}
use Rattle.log_ring.specs.declared.image.PageImage.{PageImage}
use Rattle.log_ring.specs.Groups.{AreImagesAt, FitsRing, Group, HasLog, LogStands, span}
use Rattle.log_ring.specs.Homes.{AreLoggable}
use Rattle.log_ring.specs.Ring.{IsGateOpen, IsOnPlaces, place_at, ring_byte}
use Rattle.meta_log.specs.Log.{Log, Stands, pending_groups, used}

-- Places.

-- what is written of the header's page: all after its gate
abbrev pub IsHeaderBody : Anchor → ℕ → Places
IsHeaderBody anchor place = IsIn anchor.log_vol (ring_byte anchor place + block_bytes) 7680

-- the gate at a place
abbrev pub IsGateAt : Anchor → ℕ → Places
IsGateAt anchor place = IsIn anchor.log_vol (ring_byte anchor place) block_bytes

-- a group of n images, all but its own gate, and the next gate
abbrev pub IsGroupBody : Anchor → ℕ → ℕ → Places
IsGroupBody anchor place n v k =
    IsHeaderBody anchor place v k
    ⊎ IsOnPlaces anchor (place + 1) n v k
    ⊎ IsGateAt anchor (place + 1 + n) v k

-- Calls.

-- what follows the gate at a place is what a page has there
abbrev pub IsWrittenBody : Image → Anchor → ℕ → List ℕ → Type 0
IsWrittenBody image anchor place header =
    drop block_bytes (place_at image anchor place) ≡ drop block_bytes header

-- after the gate at a place stands a group, but for the gate itself, and the next gate is closed;
-- nothing of it is pending
pub record IsReadyToOpen (moment : Moment) (anchor : Anchor) (place : ℕ) (header : List ℕ)
    (images : List PageImage) : Type 0 where
  pub behind : IsWrittenBody moment.contents anchor place header
  pub pages : AreImagesAt moment.contents anchor (place + 1) images
  pub next : ¬ IsGateOpen moment.contents anchor (place + 1 + length images)
  pub synced : (k : ℕ) → moment.unsynced anchor.log_vol k ≡ false

-- a group may follow these: they stand, and it is the next by its place and number and fits the
-- ring after them
pub record MayFollow (disk : Disk) (anchor : Anchor) (groups : List Group) (place : ℕ)
    (group : Group) : Type 0 where
  pub stands : LogStands disk anchor groups
  pub place_is : place ≡ anchor.start + span groups
  pub number_is : group.number ≡ anchor.group + length groups
  pub loggable : AreLoggable anchor group.images
  pub fits : FitsRing (groups ++ group ∷ [])

-- an image has these groups, or those
abbrev pub HasEither : List ℕ → Anchor → List Group → List Group → Image → Type 0
HasEither sizes anchor groups others image =
    HasLog sizes anchor groups image ⊎ HasLog sizes anchor others image

-- nothing is pending on a volume
abbrev pub IsSyncedOn : ℕ → Moment → Type 0
IsSyncedOn vol moment = (k : ℕ) → moment.unsynced vol k ≡ false

-- an image has on the log's volume what a read gave at a moment, but for the n places from this one
-- on
abbrev pub IsSyncedBeside : Moment → Anchor → ℕ → ℕ → Image → Type 0
IsSyncedBeside moment anchor place n image =
    (k : ℕ) → ¬ IsOnPlaces anchor place n anchor.log_vol k
    → image anchor.log_vol k ≡ moment.contents anchor.log_vol k

-- an image has these groups; or more of them in the n places from this one on, and then the rest of
-- the log's volume was synced before
abbrev pub HasMoreOnceSynced : Disk → Anchor → ℕ → ℕ → List Group → List Group → Image → Type 0
HasMoreOnceSynced old anchor place n groups more image =
    HasLog old.sizes anchor groups image
    ⊎ (HasLog old.sizes anchor (groups ++ more) image
    × IsSyncedBeside old.now anchor place n image)

-- a group was written at a place, or that was cut short: nothing is touched but its places and the
-- next one, and each image since has it whole or not at all. Its gate opens only once the log's
-- volume is synced.
pub record WritesGroup (old new : Disk) (anchor : Anchor) (place : ℕ) (group : Group)
    : Type 0 where
  pub writes : OnlyWrites old new (IsOnPlaces anchor place (length group.images + 2))
  pub any_moment : Tells old → (groups : List Group) → MayFollow old anchor groups place group
      → LeavesOnly old new (HasEither old.sizes anchor groups (groups ++ group ∷ []))
  pub synced : Tells old → (groups : List Group) → MayFollow old anchor groups place group
      → LeavesOnly old new
      (HasMoreOnceSynced old anchor place (length group.images + 2) groups (group ∷ []))

-- it is done
abbrev pub HasWrittenGroup : Disk → Disk → Anchor → ℕ → Group → Type 0
HasWrittenGroup old new anchor place group =
    Tells old → (groups : List Group) → MayFollow old anchor groups place group
    → LogStands new anchor (groups ++ group ∷ [])

-- What is pending.

-- it was made durable, or that was cut short: nothing is touched but the ring after the durable
-- groups, and each image since has it whole or not at all. The gate opens only once the log's
-- volume is synced.
pub record Forces (old new : Disk) (log : Log) : Type 0 where
  pub writes : let place = log.anchor.start + used log in
      OnlyWrites old new (IsOnPlaces log.anchor place (span (pending_groups log) + 1))
  pub any_moment : Tells old → (groups : List Group) → Stands old log groups
      → LeavesOnly old new
      (HasEither old.sizes log.anchor groups (groups ++ pending_groups log))
  pub synced : Tells old → (groups : List Group) → Stands old log groups
      → let place = log.anchor.start + used log in
      let n = span (pending_groups log) + 1 in
      LeavesOnly old new (HasMoreOnceSynced old log.anchor place n groups (pending_groups log))

-- the log once that is durable
abbrev pub forced : Log → Log
forced log = record log {
  groups = log.groups + length (pending_groups log);
  logged = log.logged ++ log.pending;
  pending = [];
}

-- it is done
abbrev pub HasForced : Disk → Disk → Log → Type 0
HasForced old new log =
    Tells old → (groups : List Group) → Stands old log groups
    → Stands new (forced log) (groups ++ pending_groups log)
