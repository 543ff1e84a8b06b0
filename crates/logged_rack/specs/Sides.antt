-- What images show: their pages once the groups of a log are redone.
use Rattle.std.specs.Prelude.{◌≡◌, ◌++◌, List}
use Rattle.meta_log.specs.domain_base.declared.place.Home.{Home}
use Rattle.meta_log.specs.disk_label.declared.anchor.Anchor.{Anchor}
use Rattle.meta_log.specs.volume_disk.Disk.{Disk, MayLeave, Moment, Tells}
use Rattle.meta_log.specs.volume_disk.Image.{Image, NoPlace}
use Rattle.meta_log.specs.volume_disk.Run.{LeavesOnly, OnlyReads, OnlyWrites}
use Rattle.meta_log.specs.log_ring.Groups.{Group, HasLog, LogStands, pages_in, redone}
use Rattle.meta_log.specs.log_ring.Homes.{IsLogPage, IsLoggable}
use Rattle.meta_log.specs.log_ring.Images.{AreDistinctHomes, overlaid}
use Rattle.meta_log.specs.log_ring.Settling.{IsOnPage}
use Rattle.meta_log.specs.log_ring.declared.image.PageImage.{PageImage}
use Rattle.meta_log.specs.Force.{Forces}
use Rattle.meta_log.specs.Log.{Log, appended, pending_groups}

-- two images have the same page at each home but these; the log's own pages are no homes
abbrev pub HaveSamePages : Anchor → (Home → Type 0) → Image → Image → Type 0
HaveSamePages anchor changed before image =
    (home : Home) → ¬ IsLogPage anchor home → ¬ changed home
    → pages_in image home ≡ pages_in before home

abbrev pub NoHome : Home → Type 0
NoHome home = ⊥

-- an image has the pages of one that might have been left at a moment, but at these homes
abbrev pub ShowsAsBefore : Moment → Anchor → (Home → Type 0) → Image → Type 0
ShowsAsBefore moment anchor changed image =
    (before : Image) × MayLeave moment before × HaveSamePages anchor changed before image

-- A law for each call.

-- a change that is appended is laid over what an image shows once all before it is redone
abbrev pub AppendShows : Log → List PageImage → List Group → Image → Type 0
AppendShows log change groups image =
    AreDistinctHomes log.pending → (home : Home)
    → redone (groups ++ pending_groups (appended log change)) image home
    ≡ overlaid change (redone (groups ++ pending_groups log) image) home

-- a force changes no page but the log's
abbrev pub ForceShows : Disk → Disk → Log → Type 0
ForceShows old new log =
    Tells old → Forces old new log → LeavesOnly old new (ShowsAsBefore old.now log.anchor NoHome)

-- a read leaves what a stop might have left before
abbrev pub ReadShows : Disk → Disk → Type 0
ReadShows old new = Tells old → OnlyReads old new → LeavesOnly old new (MayLeave old.now)

-- the log stands, and each page is one of before, but at these homes
abbrev pub KeepsLogAndPages : Disk → Disk → Anchor → List Group → (Home → Type 0) → Type 0
KeepsLogAndPages old new anchor groups changed =
    Tells old → LogStands old anchor groups
    → LeavesOnly old new
    (λ image. HasLog old.sizes anchor groups image × ShowsAsBefore old.now anchor changed image)

-- a page that is written in place is the only one that changes
abbrev pub WriteShows : Disk → Disk → Anchor → List Group → Home → Type 0
WriteShows old new anchor groups home =
    IsLoggable anchor home → OnlyWrites old new (IsOnPage home)
    → KeepsLogAndPages old new anchor groups (λ other. other ≡ home)

-- a sync changes none
abbrev pub SyncShows : Disk → Disk → Anchor → List Group → Type 0
SyncShows old new anchor groups =
    OnlyWrites old new NoPlace → KeepsLogAndPages old new anchor groups NoHome
