-- How a run ends, by what its words ask for.
use Rattle.std.specs.Prelude.{◌≡◌, ◌≢◌, ◌⊎◌, ◌≤◌, ℕ, IfSome, None, Option, Result, Ok, Err, List, []}
use Rattle.domain_attaching.specs.domain_base.Limits.{min_first_volume_pages}
use Rattle.domain_attaching.specs.domain_base.declared.version.Version.TheVariants.{Four}
use Rattle.domain_attaching.specs.volume_disk.Disk.{Disk, Tells, volume_pages}
use Rattle.domain_attaching.specs.volume_disk.Run.{LeavesOnly, OnlyReads, Touches}
use Rattle.domain_attaching.specs.fileset_values.declared.entry.Entry.{Entry}
use Rattle.run_parts.specs.script_text.History.{history_text}
use Rattle.domain_attaching.specs.domain_making.Making.{AreSlotsReady, IsBeforeNoneOrEmpty, IsNoneOrEmpty, IsOnFirst, pages_in_use}
use Rattle.run_parts.specs.script_text.declared.script.Script.{Script}
use Rattle.run_parts.specs.script_text.declared.script.Section.{Section}
use Rattle.domain_attaching.specs.Settling.{StaysReadSince}
use Rattle.advfs_run.specs.Runs.{BeginsNot, ClosesAs, HasFailed, LeadsFromNew, MakesNone, RunsFrom, WriteFailed, WritesPassed}
use Rattle.run_parts.specs.Answering.{SameByNumber}
use Rattle.run_parts.specs.Made.{Guards, MakeEnds, TellsOfSmall}
use Rattle.run_parts.specs.Reading.{HasRead, IsScript}
use Rattle.run_parts.specs.Transfer.{AppendsFront, AppendsPart}
use Rattle.run_parts.specs.Verified.{MeansCounts, VerifyEnds}
use Rattle.run_parts.specs.declared.verifying.DomainCounts.{DomainCounts}
use Rattle.run_parts.specs.declared.words.Form.{Form}
use Rattle.run_parts.specs.declared.words.Form.TheVariants.{Make, Run, Try, Verify}
use Rattle.run_parts.specs.declared.status.Status.{Status}
use Rattle.run_parts.specs.declared.status.Status.TheVariants as ended

-- ** A script that is run

-- the words ask for a script's run
abbrev pub IsRun : Result Form ℕ → Type 0
IsRun (Ok (Try pages)) = Unit {0}
IsRun (Ok Run) = Unit {0}
IsRun other = ⊥

-- what was read if a script is run or tried; for other words nothing was read
abbrev pub HasReadFor : Result Form ℕ → Option (List ℕ) → List ℕ → Status → List Entry → Type 0
HasReadFor (Ok (Try pages)) left read status history = HasRead left read status history
HasReadFor (Ok Run) left read status history = HasRead left read status history
HasReadFor other left read status history = (read ≡ []) × (history ≡ [])

-- what was read says a script, which has these sections
pub record HasSections (left : Option (List ℕ)) (read : List ℕ) (sections : List Section) : Type 0
  where
    pub script : Script
    pub is_script : IsScript left read script
    pub same : SameByNumber script.clients sections

-- the run has begun, as far as its status tells
abbrev pub HasBegun : Status → Type 0
HasBegun ended.Ok = Unit {0}
HasBegun ended.SinkFault = Unit {0}
HasBegun other = ⊥

-- the entries lead from what the rack had to what it has; of `try`, from a new domain of version 4
abbrev pub LeadsFor : Form → Disk → Disk → List Entry → Type 0 → Type 0
LeadsFor (Try pages) old new entries closed =
    ∥ LeadsFromNew Four old.sizes entries new (Tells old × closed) ∥₁
LeadsFor Run old new entries closed = RunsFrom old new entries closed
LeadsFor other old new entries closed = ⊥

-- a rack was left alone, or only read; or each image that a stop leaves since then is read as what
-- its contents were read as
abbrev pub LeavesContents : Disk → Disk → Type 0
LeavesContents old new = (new ≡ old) ⊎ OnlyReads old new ⊎ StaysReadSince old new

-- no run has begun, and no command was answered; of `run`, what the image means is left as it was
abbrev pub HasNotRun : Form → Disk → Disk → Status → List Entry → Type 0
HasNotRun Run old new status history = (history ≡ []) × (¬ HasBegun status)
    × LeavesContents old new
HasNotRun other old new status history = (history ≡ []) × ¬ HasBegun status

-- the status with which a run ends after its domain was closed with another one: the same, unless
-- the history could not be printed
abbrev pub PrintsAs : List Entry → Status → Status → Type 0
PrintsAs history end result = (result ≡ end) ⊎ (result ≡ ended.SinkFault)
    ⊎ ((result ≡ ended.OutOfMemory) × (history ≢ []))

-- a run has begun, and its domain was closed with this end, whether its history was printed or not;
-- the history leads from what the rack had, and if the end is Ok, all of it is on the rack
pub record HasRun (form : Form) (old new : Disk) (status : Status) (history : List Entry) : Type 0
  where
    pub end : Status
    pub prints : PrintsAs history end status
    pub closes : ClosesAs old new end
    pub leads : LeadsFor form old new history (end ≡ ended.Ok)

-- a run has ended in this way, or none has begun
abbrev pub RunsFor : Result Form ℕ → Disk → Disk → Status → List Entry → Type 0
RunsFor (Ok (Try pages)) old new status history =
    HasNotRun (Try pages) old new status history ⊎ HasRun (Try pages) old new status history
RunsFor (Ok Run) old new status history =
    HasNotRun Run old new status history ⊎ HasRun Run old new status history
RunsFor other old new status history = history ≡ []

-- the first volume is large enough for a domain, if one is to be made
abbrev pub IsLargeFor : Form → Disk → Type 0
IsLargeFor (Try pages) old = min_first_volume_pages ≤ volume_pages old.sizes 1
IsLargeFor other old = Unit {0}

-- why a run has not begun
abbrev pub NotBegun : Form → Disk → Disk → Status → Type 0
NotBegun (Try pages) old new status = MakesNone old new status
NotBegun Run old new status = BeginsNot old new status
NotBegun other old new status = ⊥

-- the causes of the statuses: at Ok no write or sync of the rack has failed; for `run` why a
-- domain is not attached, for `try` why none is made, and for both that a call of a volume
-- failed
abbrev pub EndsFor : Result Form ℕ → Disk → Disk → Status → Type 0
EndsFor (Ok (Try pages)) old new ended.Ok =
    IsLargeFor (Try pages) old × WritesPassed old new
EndsFor (Ok (Try pages)) old new (ended.VolumeSmall n) =
    NotBegun (Try pages) old new (ended.VolumeSmall n)
EndsFor (Ok (Try pages)) old new (ended.NotADomain vol at) = ⊥
EndsFor (Ok (Try pages)) old new (ended.Unfit why) = ⊥
EndsFor (Ok (Try pages)) old new (ended.VolumeFault vol) = HasFailed old new vol
EndsFor (Ok (Try pages)) old new (ended.Found faults) = ⊥
EndsFor (Ok (Try pages)) old new (ended.Occupied page) = ⊥
EndsFor (Ok Run) old new ended.Ok = WritesPassed old new
EndsFor (Ok Run) old new (ended.NotADomain vol at) = NotBegun Run old new (ended.NotADomain vol at)
EndsFor (Ok Run) old new (ended.Unfit why) = NotBegun Run old new (ended.Unfit why)
EndsFor (Ok Run) old new (ended.VolumeFault vol) = HasFailed old new vol
EndsFor (Ok Run) old new (ended.VolumeSmall n) = ⊥
EndsFor (Ok Run) old new (ended.Found faults) = ⊥
EndsFor (Ok Run) old new (ended.Occupied page) = ⊥
EndsFor other old new status = Unit {0}

-- a write or a sync has failed of a volume that is named after a history
abbrev pub IsLostBehind : Disk → Disk → Status → List Entry → Type 0
IsLostBehind old new status history =
    (vol : ℕ) → status ≡ ended.VolumeFault vol → history ≢ [] → WriteFailed old new vol

-- ** An image that is made, or verified

-- verifying only reads, and ends by its status as `VerifyEnds` says; of other words nothing is said
abbrev pub VerifyEndsFor : Result Form ℕ → Disk → Disk → Status → Option (List ℕ)
    → Option (List ℕ) → Type 0
VerifyEndsFor (Ok Verify) old new status before after =
    OnlyReads old new × VerifyEnds old new status before after
VerifyEndsFor other old new status before after = Unit {0}

-- what was counted of an image that was verified: its filesets and their files, if the rack tells
-- what it holds
abbrev pub CountsFor : Result Form ℕ → Disk → Option DomainCounts → Type 0
CountsFor (Ok Verify) disk found = IfSome found (λ counts. Tells disk
    → MeansCounts disk.sizes disk.now.contents counts)
CountsFor other disk found = found ≡ None

-- making touches the first volume alone, and ends by its status as `MakeEnds` says, which tells of
-- a volume that is too small; it guards a volume that holds something, unless that may be
-- overwritten; of other words nothing is said
abbrev pub MakeEndsFor : Result Form ℕ → Disk → Disk → Status → Type 0
MakeEndsFor (Ok (Make version overwrites)) old new status =
    Touches old new IsOnFirst × MakeEnds version overwrites old new status
    × TellsOfSmall old status × Guards overwrites old new
MakeEndsFor other old new status = Unit {0}

-- a stop as a domain is made leaves no anchor that counts, or the empty domain, if none counted;
-- else also what was there, but for the gates of anchors
abbrev pub StopsFor : Result Form ℕ → Disk → Disk → Type 0
StopsFor (Ok (Make version overwrites)) old new =
    let pages = pages_in_use version old.sizes in
    (Tells old → LeavesOnly old new (IsBeforeNoneOrEmpty old version pages))
    × (Tells old → AreSlotsReady old → LeavesOnly old new (IsNoneOrEmpty old.sizes version pages))
StopsFor other old new = Unit {0}

-- ** The text

-- a status after which a history is printed whole, and by the form
abbrev pub IsPrinted : Status → Type 0
IsPrinted ended.Ok = Unit {0}
IsPrinted (ended.VolumeFault vol) = Unit {0}
IsPrinted other = ⊥

-- at this status the text of the run is printed whole
abbrev pub IsTold : Result Form ℕ → Status → Type 0
IsTold (Ok (Try pages)) status = IsPrinted status
IsTold (Ok Run) status = IsPrinted status
IsTold other status = status ≡ ended.Ok

-- it is that of the history, from its front; of an image that is verified see above
abbrev pub PrintsFor : Result Form ℕ → Option (List ℕ) → Option (List ℕ) → List Entry → Type 0
PrintsFor (Ok Verify) before after history = Unit {0}
PrintsFor other before after history = AppendsFront before after (history_text history)

-- if commands were answered and memory ran out, some of the text was not printed
abbrev pub IsCutShort : Status → List Entry → Option (List ℕ) → Option (List ℕ) → Type 0
IsCutShort status history before after =
    status ≡ ended.OutOfMemory → history ≢ []
    → AppendsPart before after (history_text history)

-- no script was had
abbrev pub LacksScript : Status → Type 0
LacksScript ended.SourceFault = Unit {0}
LacksScript ended.TooLong = Unit {0}
LacksScript (ended.BadScript line kind) = Unit {0}
LacksScript other = ⊥

-- a rack is left alone if the words ask for nothing, or if they ask for a script and none was had
abbrev pub LeavesRackFor : {R : Type 0} → Result Form ℕ → Status → R → R → Type 0
LeavesRackFor (Err word) status old new = new ≡ old
LeavesRackFor (Ok (Try pages)) status old new = LacksScript status → new ≡ old
LeavesRackFor (Ok Run) status old new = LacksScript status → new ≡ old
LeavesRackFor (Ok form) status old new = Unit {0}
