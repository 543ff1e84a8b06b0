-- The log of a rack that was synced, settled.
use Rattle.std.proofs.Common.{◌==◌, Bool, true, false, if◌then◌else◌, [], ◌∷◌, length, arith, ◌≡◌, ◌∙◌, ◌⊎◌, ℕ, List, Result, Ok, Err, IfOk, inl, inr, refl, sym, ap, subst}
use Rattle.attached_domain.specs.page_store.Pages.{Pages}
use Rattle.attached_domain.specs.volume_disk.Disk.{Disk, IsSettled, MayLeave, Tells, raised_at}
use Rattle.attached_domain.specs.volume_disk.Image.{AreBytes, Image, NoPlace}
use Rattle.attached_domain.specs.volume_disk.Run.{LeavesOnly, MayLeaveTorn, Touches}
use Rattle.attached_domain.proofs.OfVolumeDisk.Laws.{then_on, weaker}
use Rattle.attached_domain.specs.disk_label.declared.anchor.Anchor.{Anchor}
use Rattle.attached_domain.specs.disk_label.declared.fault.SlotFault.TheVariants.{Read, Write as SlotWrite}
use Rattle.attached_domain.specs.log_ring.Groups.{Group, HasLog, pages_in, redone}
use Rattle.attached_domain.specs.log_ring.Homes.{HasMembers}
use Rattle.attached_domain.specs.log_recovery.Outcome.{HasGoodAnchor, IsSound}
use Rattle.attached_domain.specs.log_recovery.Settled.{settled_anchor}
use Rattle.attached_domain.specs.log_recovery.declared.redone.Redone.{Redone}
use Rattle.attached_domain.proofs.OfLogRecovery.OneOutcome.{has_one_log}
use Rattle.attached_domain.specs.log_recovery.Settling.{Anywhere, HasCause, IsBehindAll, ReadsAs, StandsAtHome, StaysRead}
use Rattle.attached_domain.specs.log_recovery.declared.settling_fault.SettleFault.{SettleFault}
use Rattle.attached_domain.specs.log_recovery.declared.settling_fault.SettleFault.TheVariants.{NoNumbers, Slot, Write}
use Rattle.domain_bringing.specs.Brought.{IsBroughtFrom}
use Rattle.domain_state.specs.Rest.{IsAtRest}
use Rattle.domain_attaching.specs.Settling.{HasNoGroups, HasSettleCause, IsRecovered, LacksNumbers, StandHome, StaysReadSince, rested_anchor}

-- what was recovered is read as the pages once redone
pub read_as : (sizes : List ℕ) (image : Image) (found : Redone) (is : IsRecovered sizes image found) → ReadsAs sizes found.anchor (redone is.0 image) image
read_as sizes image found is = record { anchor = found.anchor; groups = is.0; good = is.1.good; restarts = refl; log = is.1.log; same = λ home beside. refl }

-- an image that is left torn in no place is left whole
whole_left : (disk : Disk) (image : Image) → MayLeaveTorn NoPlace disk.now image → MayLeave disk.now image
whole_left disk image torn = record {
  synced = λ v k is. torn.2 v k (λ no. no) ∙ torn.1.synced v k is;
  bytes = torn.3;
}

-- while nothing is written each image is one of the start
pub left_since : (old new : Disk) → Tells old → Touches old new NoPlace → LeavesOnly old new (MayLeave old.now)
left_since old new told touches = weaker old new (MayLeaveTorn NoPlace old.now) (MayLeave old.now) (whole_left old) (touches.tears told)

-- so the start is still read, or might have been left, on each
pub still_since : (old new : Disk) → Touches old new NoPlace → StaysReadSince old new
still_since old new touches told first pages reads =
    weaker old new (MayLeave old.now) (λ image. MayLeave old.now image ⊎ ReadsAs old.sizes first pages image) (λ image left. inl left) (left_since old new told touches)

-- ---- a log without a group

no_group_of : (groups : List Group) → length groups ≡ 0 → groups ≡ []
no_group_of [] none = refl
no_group_of (group ∷ more) none = absurd (omega (arith, none))

module _ (disk : Disk) (found : Redone) (pending : Tells disk → IsSettled disk.now) (recovered : Tells disk → IsRecovered disk.sizes disk.now.contents found) (none : HasNoGroups found) where
  no_groups : (told : Tells disk) → (recovered told).0 ≡ []
  no_groups told = let next = (recovered told).1.next_group in no_group_of (recovered told).0 (omega (arith, next, none))

  whole : Tells disk → (image : Image) → MayLeave disk.now image → image ≡ disk.now.contents
  whole told image left = λ i v k. left.synced v k (pending told v k) i

  pub none_behind : IsBehindAll disk found.anchor
  none_behind told = record {
    stands = λ image left.
        subst (λ (im : Image). HasLog disk.sizes found.anchor [] im) (sym (whole told image left)) (subst (λ (g : List Group). HasLog disk.sizes found.anchor g disk.now.contents) (no_groups told) (recovered told).1.log);
    good = λ image left. subst (λ (im : Image). HasGoodAnchor disk.sizes im found.anchor) (sym (whole told image left)) (recovered told).1.good;
  }

  pub none_home : StandsAtHome disk disk
  none_home told first pages reads image left home beside =
      let one = has_one_log disk.sizes disk.now.contents reads.anchor reads.groups (recovered told).0 found reads.log (recovered told).1 in
      ap (λ (im : Image). pages_in im home) (whole told image left) ∙ ap (λ (g : List Group). redone g disk.now.contents home) (sym (one.1 ∙ no_groups told)) ∙ reads.same home beside

-- a log that has no group had none that was redone
pub had_none : (sizes : List ℕ) (image : Image) (anchor : Anchor) (found : Redone) → HasLog sizes anchor [] image → IsRecovered sizes image found → HasNoGroups found
had_none sizes image anchor found log is =
    let one = (has_one_log sizes image anchor [] is.0 found log is.1).1 in
    let next = is.1.next_group in
    let size : 0 ≡ length is.0 = ap length one in
    omega (arith, next, size)

-- ---- a rack on which all was synced

module _ (old mid : Disk) (writes : Touches old mid NoPlace) where
  same_contents : Tells old → mid.now.contents ≡ old.now.contents
  same_contents told = λ i v k. writes.contents told v k (λ no. no) i

  pub sound_synced : (found : Redone) → IsSound old.sizes found → IsSound mid.sizes found
  sound_synced found = subst (λ (l : List ℕ). IsSound l found) (sym writes.sizes)

  pub told_synced : Tells mid → Tells old
  told_synced told = sym writes.told ∙ told

  told_too : Tells old → Tells mid
  told_too told = writes.told ∙ told

  pub recovered_synced : (found : Redone) → (Tells old → IsRecovered old.sizes old.now.contents found) → Tells mid → IsRecovered mid.sizes mid.now.contents found
  recovered_synced found is told =
      subst (λ (l : List ℕ). IsRecovered l mid.now.contents found) (sym writes.sizes)
      (subst (λ (c : Image). IsRecovered old.sizes c found) (sym (same_contents (told_synced told))) (is (told_synced told)))

  reads_synced : Tells old → (first : Anchor) (pages : Pages) → ReadsAs old.sizes first pages old.now.contents → ReadsAs mid.sizes first pages mid.now.contents
  reads_synced told first pages reads =
      subst (λ (l : List ℕ). ReadsAs l first pages mid.now.contents) (sym writes.sizes)
      (subst (λ (c : Image). ReadsAs old.sizes first pages c) (sym (same_contents told)) reads)

  -- then its log is settled
  module _ (new : Disk) where
    pub read_since : StaysRead mid new → StaysReadSince old new
    read_since stays told first pages reads =
        let P : Image → Type 0 = λ image. MayLeave old.now image ⊎ ReadsAs old.sizes first pages image in
        then_on old mid new P (still_since old mid writes told first pages reads)
        (weaker mid new (ReadsAs mid.sizes first pages) P (λ image is. inr (subst (λ (l : List ℕ). ReadsAs l first pages image) writes.sizes is)) (stays (told_too told) first pages (reads_synced told first pages reads)))

    pub home_since : StandsAtHome mid new → StandsAtHome old new
    home_since home told first pages reads image left place beside = home (told_too told) first pages (reads_synced told first pages reads) image left place beside

    -- it is at rest
    pub rests : (found : Redone) (next : Anchor) → IsSound old.sizes found → next ≡ rested_anchor found → Touches mid new Anywhere → IsBehindAll new next → StandsAtHome mid new → (Tells old → IsRecovered old.sizes old.now.contents found)
        → (Tells new → AreBytes new.now.contents) → IsAtRest new next
    rests found next sound is touches behind home recovered bytes = record {
      members = subst (λ (l : List ℕ). HasMembers l next) (sym (touches.sizes ∙ writes.sizes)) (subst (HasMembers old.sizes) (sym is) members);
      none = behind;
      synced = λ told image left place member beside.
          let told_mid : Tells mid = sym touches.told ∙ told in
          let there = recovered_synced found recovered told_mid in
          let stand = home told_mid found.anchor (redone there.0 mid.now.contents) (read_as mid.sizes mid.now.contents found there) in
          stand image left place beside ∙ sym (stand new.now.contents (record { synced = λ v k is. refl; bytes = bytes told }) place beside);
    }
      where
        by_test : (b : Bool) → HasMembers old.sizes (if b then found.anchor else settled_anchor found)
        by_test true = sound.usable.members
        by_test false = sound.usable.members

        members : HasMembers old.sizes (rested_anchor found)
        members = by_test (found.next_group == found.anchor.group)

    -- so where it was settled
    pub rests_if : (found : Redone) (r : Result Anchor SettleFault) → IsSound old.sizes found → Touches mid new Anywhere → (Tells old → IsRecovered old.sizes old.now.contents found) → (Tells new → AreBytes new.now.contents)
        → IfOk r (λ next. next ≡ rested_anchor found) → IfOk r (IsBehindAll new) → IfOk r (λ _. StandsAtHome mid new) → IfOk r (IsAtRest new)
    rests_if found (Ok next) sound touches recovered bytes is behind home = rests found next sound is touches behind home recovered bytes
    rests_if found (Err why) sound touches recovered bytes is behind home = tt

-- ---- causes

-- a count that was as before rises as it did since
raised_too : (one other new : ℕ → ℕ) (vol : ℕ) → other ≡ one → new ≡ raised_at other vol → new ≡ raised_at one vol
raised_too one other new vol same is = is ∙ ap (λ (c : ℕ → ℕ). raised_at c vol) same

-- what was recovered of the rack of before has no numbers left
lacks_since : (old mid : Disk) → Touches old mid NoPlace → LacksNumbers mid → LacksNumbers old
lacks_since old mid touches lacks told =
    let l = lacks (touches.told ∙ told) in
    (l.0, subst (λ (s : List ℕ). IsRecovered s old.now.contents l.0) touches.sizes (subst (λ (c : Image). IsRecovered mid.sizes c l.0) (same_contents old mid touches told) l.1), l.2, l.3)

pub cause_now : (old new : Disk) (found : Redone) (why : SettleFault) → ¬ HasNoGroups found → (Tells old → IsRecovered old.sizes old.now.contents found) → HasCause old new found why → HasSettleCause old new why
cause_now old new found NoNumbers some recovered is = ((ap (λ (d : Disk). d.read_faults) is.1, ap (λ (d : Disk). d.write_faults) is.1), λ told. (found, recovered told, some, is.0))
cause_now old new found (Slot fault) some recovered is = is
cause_now old new found (Write vol) some recovered is = is

pub settle_cause_since : (old mid new : Disk) (why : SettleFault) → Touches old mid NoPlace → mid.read_faults ≡ old.read_faults → mid.write_faults ≡ old.write_faults → HasSettleCause mid new why → HasSettleCause old new why
settle_cause_since old mid new NoNumbers touches reads writes is = ((is.0.0 ∙ reads, is.0.1 ∙ writes), lacks_since old mid touches is.1)
settle_cause_since old mid new (Slot (Read vol)) touches reads writes is = (raised_too old.read_faults mid.read_faults new.read_faults vol reads is.0, is.1 ∙ writes)
settle_cause_since old mid new (Slot (SlotWrite vol)) touches reads writes is = (is.0 ∙ reads, raised_too old.write_faults mid.write_faults new.write_faults vol writes is.1)
settle_cause_since old mid new (Write vol) touches reads writes is = raised_too old.write_faults mid.write_faults new.write_faults vol writes is

-- ---- pages at home

pub stand_home : (old new : Disk) (pages : Pages) (found : Redone) → StandsAtHome old new → Tells old → IsBroughtFrom old.sizes old.now.contents pages found → StandHome new pages
stand_home old new pages found home told from image left place some beside =
    from.same place some ∙ sym (home told found.anchor (redone from.groups old.now.contents) (read_as old.sizes old.now.contents found (from.groups, from.recovered)) image left place beside)
