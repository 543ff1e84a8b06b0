-- Pages in place that are brought into frames, and written home from them.
use Rattle.std.specs.Prelude.{◌≡◌, ◌⊎◌, ◌<◌, ℕ, List, [], Option, Some, Result, Ok, Err}
use Rattle.logged_rack.specs.domain_base.declared.place.Home.{Home}
use Rattle.logged_rack.specs.volume_disk.Disk.{Disk, Tells, raised_at}
use Rattle.logged_rack.specs.volume_disk.Image.{page_at}
use Rattle.logged_rack.specs.meta_log.Log.{Log, next_number}
use Rattle.page_cache.specs.declared.cache.PageCache.{PageCache}
use Rattle.page_cache.specs.declared.frame.Frame.{Frame}
use Rattle.page_cache.specs.Cache.{kept_of}
use Rattle.page_cache.specs.Frames.{Frames}
use Rattle.file_pages.specs.Lent.{Adds, Displaces}
use Rattle.file_pages.specs.declared.fault.FrameFault.{FrameFault}
use Rattle.file_pages.specs.declared.fault.FrameFault.TheVariants.{OutOfMemory, Read}

-- the page that stood at a home was read, and is kept in a clean frame
pub record HasBrought (disk : Disk) (home : Home) (lent : List Home) (old new : PageCache)
    : Type 0 where
  pub page : List ℕ
  pub read : Tells disk → page ≡ page_at disk.now.contents home.vol home.page
  pub adds : kept_of old < 1024 → Adds lent home page old new
  pub displaces : kept_of old ≡ 1024 → Displaces lent home page old new

-- a read has failed only if a fault of it is answered, and then one of the volume that it names
abbrev pub NamesFrameFault : {T : Type 0} → Disk → Disk → Result T FrameFault → Type 0
NamesFrameFault old new (Ok _) = new.read_faults ≡ old.read_faults
NamesFrameFault old new (Err (Read vol)) = new.read_faults ≡ raised_at old.read_faults vol
NamesFrameFault old new (Err OutOfMemory) = new.read_faults ≡ old.read_faults

-- the group that a frame waits for is durable in the log; one that waits for group 0 waits for none
-- if nothing is pending
abbrev pub IsDurable : Option ℕ → Log → Type 0
IsDurable waits log = (group : ℕ) → waits ≡ Some group
    → (group < next_number log) ⊎ ((group ≡ 0) × (log.pending ≡ []))

-- after a read that failed the cache is as it was
abbrev pub KeepsUnread : {T : Type 0} → Result T FrameFault → PageCache → PageCache → Type 0
KeepsUnread (Ok _) old new = Unit {0}
KeepsUnread (Err (Read vol)) old new = new ≡ old
KeepsUnread (Err OutOfMemory) old new = Unit {0}

-- the page that the frame of a home has stands there
abbrev pub HasPageOf : Frames → Home → Disk → Type 0
HasPageOf frames home disk =
    (frame : Frame) → frames home ≡ Some frame
    → page_at disk.now.contents home.vol home.page ≡ frame.page
