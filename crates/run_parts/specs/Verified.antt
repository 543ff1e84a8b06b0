-- What is printed of an image that is verified.
use Rattle.std.specs.Prelude.{◌≡◌, ◌⊎◌, ◌==◌, ◌++◌, ℕ, ◌∷◌, [], List, None, Option, Some, codes, decimal, flat_map, if◌then◌else◌, length, sum_by}
use Rattle.std.specs.FinMap as map
use Rattle.std.specs.Io.KnownBytes.{Appends}
use Rattle.domain_faults.specs.volume_disk.Disk.{Disk, Tells, raised_at}
use Rattle.domain_faults.specs.volume_disk.Image.{Image}
use Rattle.domain_faults.specs.log_recovery.Outcome.{IsFirstFault}
use Rattle.domain_faults.specs.fileset_model.Filesets.{FilesetMap}
use Rattle.domain_faults.specs.fileset_model.Usage.{used_files}
use Rattle.domain_faults.specs.fileset_model.declared.fileset.FilesetSlot.{FilesetSlot}
use Rattle.domain_faults.specs.fileset_values.declared.command.Owner.TheVariants.{Fileset as WholeFileset}
use Rattle.domain_faults.specs.domain_layout.Faults.{FaultRow}
use Rattle.domain_faults.specs.domain_layout.Read.{Means}
use Rattle.domain_faults.specs.Rows.{rows_there}
use Rattle.domain_faults.specs.filesets_reading.Faulty.{HasFaults}
use Rattle.domain_faults.specs.declared.meaning.Meaning.{Meaning}
use Rattle.domain_faults.specs.declared.meaning.Meaning.TheVariants.{Faulty, Filesets, NoDomain}
use Rattle.domain_faults.specs.declared.fault.ReadFault.{ReadFault}
use Rattle.domain_faults.specs.declared.fault.ReadFault.TheVariants as fault
use Rattle.run_parts.specs.Transfer.{AppendsFront}
use Rattle.run_parts.specs.declared.status.Status.{Status}
use Rattle.run_parts.specs.declared.status.Status.TheVariants as status
use Rattle.run_parts.specs.declared.verifying.DomainCounts.{DomainCounts}

-- ** The list of an image's faults

-- the code at the first page that is none of a domain: that of a label, of the anchors, or of a
-- group of the log
abbrev pub first_code : ℕ → ℕ
first_code at = if at == 0 then 1 else if at == 1 then 2 else 3

-- the one row for an image in which no domain is found, at the page that says so
abbrev pub first_row : ℕ → ℕ → FaultRow
first_row vol at = record { code = first_code at; home = record { vol = vol; page = at } }

-- the first page that is none of a domain is listed alone; else the faults of the domain's pages,
-- once its log is redone; and none if the image means filesets
abbrev pub AreFaultsOf : List ℕ → Image → List FaultRow → Type 0
AreFaultsOf sizes image rows =
    ((vol at : ℕ) × IsFirstFault sizes image vol at × (rows ≡ first_row vol at ∷ []))
    ⊎ HasFaults sizes image rows
    ⊎ ((rows ≡ []) × (all : FilesetMap) × Means sizes image all)

-- those of a meaning
abbrev pub rows_of : Meaning → List FaultRow
rows_of (NoDomain vol at) = first_row vol at ∷ []
rows_of (Faulty rows) = rows_there rows.items
rows_of (Filesets all) = []

-- how many files and directories a fileset has, without its root; none if it is not there
abbrev pub files_under : Option FilesetSlot → ℕ
files_under None = 0
files_under (Some slot) = used_files slot.tree WholeFileset

-- how many the filesets with these names have
abbrev pub files_in : FilesetMap → ℕ
files_in all = sum_by (λ name. files_under (map.get all name)) (map.keys all)

-- a meaning has so many files and directories, without the roots
abbrev pub HasFiles : Meaning → ℕ → Type 0
HasFiles (Filesets all) count = count ≡ files_in all
HasFiles other count = count ≡ 0

-- these are the numbers of filesets, and of their files and directories
abbrev pub AreCountsOf : FilesetMap → DomainCounts → Type 0
AreCountsOf all counts = (counts.filesets ≡ map.len all) × (counts.files ≡ files_in all)

-- a meaning has filesets with these numbers
abbrev pub HasCounts : Meaning → DomainCounts → Type 0
HasCounts (Filesets all) counts = AreCountsOf all counts
HasCounts other counts = ⊥

-- an image means filesets with these numbers
abbrev pub MeansCounts : List ℕ → Image → DomainCounts → Type 0
MeansCounts sizes image counts =
    (all : FilesetMap) × Means sizes image all × AreCountsOf all counts

-- ** Their text

-- a line for each: the word fault, its volume, page and code
abbrev pub fault_line : FaultRow → List ℕ
fault_line row = codes "fault " ++ decimal row.home.vol ++ 32 ∷ decimal row.home.page ++ 32
    ∷ decimal row.code ++ 10 ∷ []

-- the lines of a list of faults
abbrev pub faults_text : List FaultRow → List ℕ
faults_text rows = flat_map fault_line rows

-- ** How it ends

-- these are the faults of what the rack holds, if it tells that
abbrev pub ListsFaults : Disk → List FaultRow → Type 0
ListsFaults disk rows = Tells disk → AreFaultsOf disk.sizes disk.now.contents rows

-- the status if it is not known what an image means
abbrev pub status_of_read_fault : ReadFault → Status
status_of_read_fault (fault.Fault vol) = status.VolumeFault vol
status_of_read_fault fault.OutOfMemory = status.OutOfMemory

-- these faults are printed, and there are none, or as many as the status says; or a front part of
-- their text is printed; or nothing, for want of memory
abbrev pub PrintEnds : List FaultRow → Status → Option (List ℕ) → Option (List ℕ) → Type 0
PrintEnds rows status.Ok before after = (rows ≡ []) × Appends before after []
PrintEnds rows (status.Found faults) before after =
    (length rows ≡ faults) × (¬ rows ≡ []) × Appends before after (faults_text rows)
PrintEnds rows status.SinkFault before after = AppendsFront before after (faults_text rows)
PrintEnds rows status.OutOfMemory before after = after ≡ before
PrintEnds rows other before after = ⊥

-- the faults of what a rack holds are printed in this way; or nothing, if a read of the volume
-- that is named failed
abbrev pub VerifyEnds : Disk → Disk → Status → Option (List ℕ) → Option (List ℕ) → Type 0
VerifyEnds old new (status.VolumeFault vol) before after =
    (new.read_faults ≡ raised_at old.read_faults vol) × (after ≡ before)
VerifyEnds old new status.OutOfMemory before after = after ≡ before
VerifyEnds old new other before after = (rows : List FaultRow)
    × ListsFaults old rows × PrintEnds rows other before after
