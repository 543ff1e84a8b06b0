-- What pages of members mean is what the image means from which they were read.
use Rattle.std.proofs.Common.{Result, Ok, Err, IfOk, IfErr, ◌≡◌, ◌∙◌, ◌⊎◌, ◌↔◌, inl, inr, ℕ, ◌+◌, ◌^◌, ◌<◌, ◌≤◌, List, [], ◌∷◌, Option, Some, IsSome, IsSomeAnd, refl, sym, ap, subst, arith, ⊎_elim}
use Rattle.slot_files.specs.domain_base.Version.{bitmap_pages, most_pages, number_of}
use Rattle.slot_files.specs.domain_base.declared.place.Home.{Home}
use Rattle.slot_files.specs.domain_base.declared.version.Version.{Version}
use Rattle.slot_files.specs.domain_base.declared.version.Version.TheVariants.{Four, Three}
use Rattle.slot_files.specs.page_store.Pages.{Pages}
use Rattle.slot_files.specs.volume_disk.Disk.{Disk, Tells, raised_at}
use Rattle.slot_files.specs.volume_disk.Image.{Image}
use Rattle.slot_files.specs.disk_label.declared.anchor.Anchor.{Anchor}
use Rattle.slot_files.specs.log_ring.Images.{overlaid}
use Rattle.slot_files.specs.log_ring.declared.image.PageImage.{PageImage}
use Rattle.slot_files.specs.log_ring.Groups.{Group, pages_in, redone}
use Rattle.slot_files.specs.log_ring.Homes.{IsMember, member_of}
use Rattle.slot_files.specs.log_recovery.Fault.{HasCause as IsCause, IfNotADomain}
use Rattle.slot_files.specs.log_recovery.Members.{label_version}
use Rattle.slot_files.specs.log_recovery.declared.fault.RecoverFault.{RecoverFault}
use Rattle.slot_files.specs.log_recovery.declared.fault.RecoverFault.TheVariants as recovery
use Rattle.slot_files.specs.log_recovery.Outcome.{HasRecovered, IsFirstFault}
use Rattle.slot_files.specs.log_recovery.Range.{IsInRange, IsSized}
use Rattle.slot_files.specs.log_recovery.declared.redone.Redone.{Redone}
use Rattle.slot_files.proofs.OfLogRecovery.OneOutcome.{has_no_fault}
use Rattle.slot_files.specs.domain_layout.Faults.{AreFaults, FaultRow, HasNoFault, IsFault}
use Rattle.slot_files.specs.domain_layout.Layout.{IsLayout, Layout}
use Rattle.slot_files.specs.domain_layout.Owners.{frame_of}
use Rattle.slot_files.specs.domain_layout.Reached.{Frame, IsWithin}
use Rattle.slot_files.specs.domain_layout.Read.{Means, ReadsFrom}
use Rattle.slot_files.specs.fileset_model.Filesets.{FilesetMap}
use Rattle.slot_files.specs.fileset_shapes.Found.{HasAllPages}
use Rattle.slot_files.specs.filesets_reading.Good.{frame_at}
use Rattle.slot_files.specs.filesets_filled.Slots.{IsLaidOut}
use Rattle.domain_faults.specs.Rows.{rows_there}
use Rattle.slot_files.specs.fileset_shapes.Within.{AgreeWithin, IsInside}
use Rattle.slot_files.proofs.OfFilesetShapes.FaultsWithin.{faults_within}
use Rattle.slot_files.proofs.OfFilesetShapes.FilesetsWithin.{filesets_within}
use Rattle.slot_files.proofs.OfDomainLayout.OnePage.{HasOne, one_of}
use Rattle.slot_files.specs.filesets_reading.Faulty.{HasFaults}
use Rattle.domain_faults.specs.Meaning.{HasFilesets, HasMeaning, IsMeaningOf, IsToldBy}
use Rattle.domain_faults.specs.Pages.{HasCause, IsReadAt}
use Rattle.domain_faults.specs.declared.fault.ReadFault.{ReadFault}
use Rattle.domain_faults.specs.declared.fault.ReadFault.TheVariants.{Fault, OutOfMemory}
use Rattle.domain_faults.specs.declared.meaning.Meaning.{Meaning}
use Rattle.domain_faults.specs.declared.meaning.Meaning.TheVariants.{Faulty, Filesets, NoDomain}

-- ---- an anchor in range

few_bitmaps : (version : Version) (pages : ℕ) → 64 ≤ pages → 2 + bitmap_pages version pages ≤ pages
few_bitmaps Three pages enough = omega (arith, enough)
few_bitmaps Four pages enough = omega (arith, enough)

small_by : (version : Version) (pages : ℕ) → pages ≤ most_pages version → pages ≤ 2 ^ 32
small_by Three pages most = omega (arith, most)
small_by Four pages most = omega (arith, most)

pub inside : (versions : ℕ → Version) (anchor : Anchor) (version : Version) → IsInRange versions anchor → IsInside (frame_at anchor version)
inside versions anchor version range = record {
  table = λ home at. subst (λ o. IsSomeAnd o (λ (h : Home). IsMember anchor h.vol × (h.page < (member_of anchor h.vol).pages))) at range.table;
  bitmaps = λ vol member. few_bitmaps version (member_of anchor vol).pages ((sized vol member).least member);
  small = λ vol member. small_by (versions vol) (member_of anchor vol).pages ((sized vol member).most member);
}
  where
    sized : (vol : ℕ) → IsMember anchor vol → IsSized (versions vol) anchor vol
    sized vol member = range.sized vol member.first (omega (arith, member.last))

-- ---- the pages that were read

-- each page of a member was read
abbrev pub AreRead : Disk → Redone → Pages → Type 0
AreRead disk found pages = (home : Home) → IsMember found.anchor home.vol → home.page < (member_of found.anchor home.vol).pages → IsReadAt disk found.images pages home

pub all_there : (disk : Disk) (found : Redone) (version : Version) (pages : Pages) → AreRead disk found pages → HasAllPages pages (frame_at found.anchor version)
all_there disk found version pages read table says number tag cells seen has page home at within = (read home within.0 within.1).there

module _ (disk : Disk) (found : Redone) (version : Version) (pages : Pages) (read : AreRead disk found pages) (told : Tells disk) (groups : List Group) (has : HasRecovered disk.sizes disk.now.contents groups found) (is_version : found.anchor.version ≡ number_of version) where
  abbrev image : Image
  image = disk.now.contents

  abbrev frame : Frame
  frame = frame_at found.anchor version

  agree : AgreeWithin pages (redone groups image) frame
  agree home within = (read home within.0 within.1).is told ∙ ap (λ (images : List PageImage). overlaid images (pages_in image) home) (sym has.images)

  is_inside : IsInside frame
  is_inside = inside (label_version image) found.anchor version has.good.in_range

  same : (row : FaultRow) → IsFault pages frame row ↔ IsFault (redone groups image) frame row
  same row = faults_within pages (redone groups image) frame row is_inside agree

  no_first : (vol at : ℕ) → ¬ IsFirstFault disk.sizes image vol at
  no_first vol at = has_no_fault disk.sizes image found.anchor groups vol at has.good has.log

  faulty : (rows : List FaultRow) → AreFaults pages frame rows → ¬ rows ≡ [] → HasFaults disk.sizes image rows
  faulty rows are some = record {
    anchor = found.anchor;
    groups = groups;
    version = version;
    log = has.log;
    is_version = is_version;
    no_first = no_first;
    faults = record { each = λ row. ((λ among. (same row).0 ((are.each row).0 among)), (λ fault. (are.each row).1 ((same row).1 fault))); order = are.order };
    some = some;
  }

  table_at : HasOne found.anchor.table (λ (h : Home). IsMember found.anchor h.vol × (h.page < (member_of found.anchor h.vol).pages))
  table_at = one_of found.anchor.table (λ (h : Home). IsMember found.anchor h.vol × (h.page < (member_of found.anchor h.vol).pages)) has.good.in_range.table

  reads : (all : FilesetMap) → HasFilesets pages found.anchor version all → ReadsFrom (redone groups image) table_at.value all
  reads all is = by_layout is.laid.layout is.laid.is is.laid.laid
    where
      by_layout : (layout : Layout) → frame_of layout ≡ frame → IsLayout pages layout → ReadsFrom (redone groups image) table_at.value all
      by_layout layout is_frame laid =
          filesets_within pages (redone groups image) layout table_at.value all (subst IsInside (sym is_frame) is_inside) (subst (AgreeWithin pages (redone groups image)) (sym is_frame) agree) laid
          (subst (HasNoFault pages) (sym is_frame) is.no_fault) (subst (HasAllPages pages) (sym is_frame) (all_there disk found version pages read))
          (ap (λ (f : Frame). f.anchor.table) is_frame ∙ table_at.there) (is.reads table_at.value table_at.there)

  means : (all : FilesetMap) → HasFilesets pages found.anchor version all → Means disk.sizes image all
  means all is = record {
    anchor = found.anchor;
    groups = groups;
    version = version;
    log = has.log;
    is_version = is_version;
    no_first = no_first;
    no_fault = λ row fault. is.no_fault row ((same row).1 fault);
    reads = record { anchor = found.anchor; groups = groups; log = has.log; home = table_at.value; table = table_at.there; reads = reads all is };
  }

  pub meaning_of : (meaning : Meaning) → HasMeaning pages found.anchor version meaning → IsMeaningOf disk.sizes image meaning
  meaning_of (NoDomain vol at) is = absurd is
  meaning_of (Faulty rows) is = faulty (rows_there rows.items) is.0 is.1
  meaning_of (Filesets all) is = means all is

-- ---- where no log was recovered

module _ (old new : Disk) where
  pub told_meaning : (fault : RecoverFault) (result : Result Meaning ReadFault) → IsToldBy fault result → IfNotADomain fault (λ vol at. Tells old → IsFirstFault old.sizes old.now.contents vol at)
      → IfOk result (λ meaning. Tells old → IsMeaningOf old.sizes old.now.contents meaning)
  told_meaning (recovery.NotADomain vol at) result told first = subst (λ r. IfOk r (λ meaning. Tells old → IsMeaningOf old.sizes old.now.contents meaning)) (sym told) first
  told_meaning (recovery.Fault vol) result told first = subst (λ r. IfOk r (λ meaning. Tells old → IsMeaningOf old.sizes old.now.contents meaning)) (sym told) tt
  told_meaning recovery.OutOfMemory result told first = subst (λ r. IfOk r (λ meaning. Tells old → IsMeaningOf old.sizes old.now.contents meaning)) (sym told) tt

  pub told_cause : (fault : RecoverFault) (result : Result Meaning ReadFault) → IsToldBy fault result → IsCause old new fault → IfErr result (HasCause old new)
  told_cause (recovery.NotADomain vol at) result told cause = subst (λ r. IfErr r (HasCause old new)) (sym told) tt
  told_cause (recovery.Fault vol) result told cause = subst (λ r. IfErr r (HasCause old new)) (sym told) cause
  told_cause recovery.OutOfMemory result told cause = subst (λ r. IfErr r (HasCause old new)) (sym told) cause

  pub told_passed : (fault : RecoverFault) (result : Result Meaning ReadFault) → IsToldBy fault result → IsCause old new fault → IfOk result (λ _. new.read_faults ≡ old.read_faults)
  told_passed (recovery.NotADomain vol at) result told cause = subst (λ r. IfOk r (λ _. new.read_faults ≡ old.read_faults)) (sym told) cause
  told_passed (recovery.Fault vol) result told cause = subst (λ r. IfOk r (λ _. new.read_faults ≡ old.read_faults)) (sym told) tt
  told_passed recovery.OutOfMemory result told cause = subst (λ r. IfOk r (λ _. new.read_faults ≡ old.read_faults)) (sym told) tt

-- ---- behind other reads

pub cause_before : (old mid new : Disk) → mid.read_faults ≡ old.read_faults → (fault : ReadFault) → HasCause mid new fault → HasCause old new fault
cause_before old mid new passed (Fault vol) cause = subst (λ counts. new.read_faults ≡ raised_at counts vol) passed cause
cause_before old mid new passed OutOfMemory cause = cause ∙ passed
