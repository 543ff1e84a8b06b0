-- A volume that is looked at before a domain is made on it.
use Rattle.std.proofs.Common.{◌≡◌, ◌∙◌, ◌⊎◌, inl, inr, ℕ, ◌+◌, Bool, true, false, List, None, length, refl, sym, ap, subst, ⊎_elim, arith}
use Rattle.std.proofs.lemmas.Bool.{cases_lt}
use Rattle.domain_faults.specs.domain_base.declared.version.Version.{Version}
use Rattle.domain_faults.specs.volume_disk.Disk.{Disk, Moment, Tells, raised_at}
use Rattle.domain_faults.specs.volume_disk.Image.{Image}
use Rattle.domain_faults.specs.volume_disk.Run.{LeavesOnly, MayLeaveTorn, OnlyReads}
use Rattle.domain_faults.proofs.OfVolumeDisk.Laws.{only_reads-leaves, only_reads-none, then_on, untorn}
use Rattle.domain_faults.specs.disk_label.Anchor.{IsAnchor}
use Rattle.domain_faults.specs.disk_label.Fault.{HasPassed}
use Rattle.domain_faults.specs.disk_label.Slot.{IsGate, IsGateOf}
use Rattle.domain_making.specs.Fault.{HasCause}
use Rattle.domain_making.proofs.Alone.{alone}
use Rattle.domain_making.specs.Making.{AreSlotsReady, HasNoOtherAnchor, IsBeforeNoneOrEmpty, IsLarge, IsMade, IsNoneOrEmpty, new_anchor, pages_in_use}
use Rattle.domain_making.specs.declared.fault.MakeFault.{MakeFault}
use Rattle.domain_making.specs.declared.fault.MakeFault.TheVariants as fault
use Rattle.run_parts.specs.Made.{AreZeroPages, FindsUsed, Guards, MakeEnds, WritesNone, is_zero_page, status_of_make_fault}

-- ---- pages that are looked at

pub one_page_more : (pages : ℕ) (image : Image) → AreZeroPages pages image → is_zero_page image pages ≡ true → AreZeroPages (pages + 1) image
one_page_more pages image zeros here page below =
    ⊎_elim (λ lower. zeros page lower) (λ high. let is : pages ≡ page = omega (arith, high, below) in subst (λ (p : ℕ). is_zero_page image p ≡ true) is here) (cases_lt page pages)

-- what a later read of a page tells of the start
pub zero_still : (old mid : Disk) (page : ℕ) (zeros : Bool) → OnlyReads old mid → Tells old → (Tells mid → zeros ≡ is_zero_page mid.now.contents page) → zeros ≡ true → is_zero_page old.now.contents page ≡ true
zero_still old mid page zeros reads told tested all_zero =
    subst (λ (moment : Moment). is_zero_page moment.contents page ≡ true) (reads.now told) (sym (tested (reads.touches.told ∙ told)) ∙ all_zero)

-- ---- what was done by then

pub only_looked : (overwrites : Bool) (old new : Disk) → WritesNone overwrites old new → OnlyReads old new
only_looked true old new same = subst (OnlyReads old) (sym same) (only_reads-none old)
only_looked false old new reads = reads

pub guarded : (overwrites : Bool) (old new : Disk) → (overwrites ≡ false → FindsUsed old None) → Guards overwrites old new
guarded true old new zeros = tt
guarded false old new zeros = inr (zeros refl)

-- ---- how making ends

module _ (version : Version) (overwrites : Bool) (old mid new : Disk) (looked : WritesNone overwrites old mid) (large : IsLarge old.sizes) where
  reads : OnlyReads old mid
  reads = only_looked overwrites old mid looked

  large_still : IsLarge mid.sizes
  large_still = subst IsLarge (sym reads.touches.sizes) large

  pub ends_then : HasPassed old mid → (why : MakeFault) → HasCause mid new why → MakeEnds version overwrites old new (status_of_make_fault why)
  ends_then passed (fault.VolumeSmall pages) cause = let few = cause.0 in let low = cause.1 in absurd (omega (arith, large_still, few, low))
  ends_then passed (fault.Fault vol) (inl cause) = inl (cause.0 ∙ ap (λ (counts : ℕ → ℕ). raised_at counts vol) passed.0, cause.1 ∙ passed.1)
  ends_then passed (fault.Fault vol) (inr cause) = inr (cause.0 ∙ passed.0, cause.1 ∙ ap (λ (counts : ℕ → ℕ). raised_at counts vol) passed.1)
  ends_then passed fault.OutOfMemory same = subst (WritesNone overwrites old) (sym same) looked

-- an empty domain, once the volume was looked at
pub made_then : (version : Version) (old mid new : Disk) → OnlyReads old mid → (Tells mid → IsMade new (new_anchor version (pages_in_use version mid.sizes))) → Tells old
    → IsMade new (new_anchor version (pages_in_use version old.sizes))
made_then version old mid new reads made told =
    subst (λ (sizes : List ℕ). IsMade new (new_anchor version (pages_in_use version sizes))) reads.touches.sizes (made (reads.touches.told ∙ told))

pub one_volume_still : (old new : Disk) → OnlyReads old new → length old.sizes ≡ 1 → HasNoOtherAnchor new
one_volume_still old new reads one = alone new (ap (λ (sizes : List ℕ). length sizes) reads.touches.sizes ∙ one)

-- ---- what a stop leaves

module _ (version : Version) (old mid : Disk) (reads : OnlyReads old mid) (told : Tells old) where
  pub none_since : AreSlotsReady old → LeavesOnly old mid (IsNoneOrEmpty old.sizes version (pages_in_use version old.sizes))
  none_since ready =
      only_reads-leaves old mid (IsNoneOrEmpty old.sizes version (pages_in_use version old.sizes)) told reads
      (λ image left. inl (ready.0 image (untorn (IsGate 1 0) old.now image left)))

  pub before_since : LeavesOnly old mid (IsBeforeNoneOrEmpty old version (pages_in_use version old.sizes))
  before_since =
      only_reads-leaves old mid (IsBeforeNoneOrEmpty old version (pages_in_use version old.sizes)) told reads
      (λ image left. inl (untorn (IsGateOf 1) old.now image left))

  told_still : Tells mid
  told_still = reads.touches.told ∙ told

  ready_at : (slot : ℕ) → ((image : Image) → MayLeaveTorn (IsGate 1 slot) old.now image → IsAnchor old.sizes image None) → (image : Image) → MayLeaveTorn (IsGate 1 slot) mid.now image → IsAnchor mid.sizes image None
  ready_at slot ready image torn =
      subst (λ (sizes : List ℕ). IsAnchor sizes image None) (sym reads.touches.sizes)
      (ready image (subst (λ (moment : Moment). MayLeaveTorn (IsGate 1 slot) moment image) (reads.now told) torn))

  ready_still : AreSlotsReady old → AreSlotsReady mid
  ready_still ready = (ready_at 0 ready.0, ready_at 1 ready.1)

  module _ (new : Disk) where
    pub none_then : AreSlotsReady old → (Tells mid → AreSlotsReady mid → LeavesOnly mid new (IsNoneOrEmpty mid.sizes version (pages_in_use version mid.sizes)))
        → LeavesOnly old new (IsNoneOrEmpty old.sizes version (pages_in_use version old.sizes))
    none_then ready since =
        then_on old mid new (IsNoneOrEmpty old.sizes version (pages_in_use version old.sizes)) (none_since ready)
        (subst (λ (sizes : List ℕ). LeavesOnly mid new (IsNoneOrEmpty sizes version (pages_in_use version sizes))) reads.touches.sizes (since told_still (ready_still ready)))

    abbrev Before : Moment → List ℕ → Image → Type 0
    Before moment sizes image = MayLeaveTorn (IsGateOf 1) moment image ⊎ IsNoneOrEmpty sizes version (pages_in_use version sizes) image

    pub before_then : (Tells mid → LeavesOnly mid new (IsBeforeNoneOrEmpty mid version (pages_in_use version mid.sizes))) → LeavesOnly old new (IsBeforeNoneOrEmpty old version (pages_in_use version old.sizes))
    before_then since =
        then_on old mid new (IsBeforeNoneOrEmpty old version (pages_in_use version old.sizes)) before_since
        (subst (λ (sizes : List ℕ). LeavesOnly mid new (Before old.now sizes)) reads.touches.sizes
        (subst (λ (moment : Moment). LeavesOnly mid new (Before moment mid.sizes)) (reads.now told) (since told_still)))
