-- A log that was recovered is settled.
use Rattle.std.proofs.Common.{◌≡◌, ◌==◌, ℕ, ◌-◌, ◌<◌, ◌≤◌, true, false, List, Some, refl, sym, ◌∙◌, ap, subst, inl, inr, ⊎_elim, arith}
use Rattle.std.proofs.lemmas.Bool.{cases_Bool, cases_eq}
use Rattle.std.specs.List.{list_any}
use Rattle.log_ring.specs.domain_base.declared.place.Home.{Home}
use Rattle.log_ring.specs.volume_disk.Disk.{Disk, HasVolume, IsSettled, MayLeave, Moment, Tells, volume_pages}
use Rattle.log_ring.specs.volume_disk.Image.{AreBytes, Places}
use Rattle.log_ring.specs.volume_disk.Run.{OnlyReads, Touches}
use Rattle.log_ring.proofs.OfVolumeDisk.Laws.{leaves-now, touches-then, touches-wider}
use Rattle.log_ring.specs.disk_label.Anchor.{IsAnchor}
use Rattle.log_ring.specs.disk_label.Slot.{HasReadied, ReadiesSlot, StaysSynced}
use Rattle.log_ring.specs.disk_label.declared.anchor.Anchor.{Anchor}
use Rattle.log_ring.specs.Groups.{Group}
use Rattle.log_ring.specs.Homes.{IsLoggable}
use Rattle.log_ring.specs.Settling.{BringsHome, HasBroughtHome, HasHome, IsAtHomes}
use Rattle.log_ring.specs.declared.image.PageImage.{PageImage}
use Rattle.log_ring.proofs.HomePages.{each_home}
use Rattle.log_ring.proofs.Syncing.{elsewhere, home_on}
use Rattle.log_recovery.specs.Laws.{IsReadyToSettle}
use Rattle.log_recovery.specs.Outcome.{HasGoodAnchor, HasRecovered, IsSound}
use Rattle.log_recovery.specs.Readable.{IsReadable, SettlesReadably}
use Rattle.log_recovery.specs.Settled.{settled_anchor}
use Rattle.log_recovery.specs.declared.redone.Redone.{Redone}
use Rattle.log_recovery.proofs.Readied.{readies_to_settle}
use Rattle.log_recovery.proofs.SettledAnchors.{settles_as_moves}
use Rattle.log_recovery.specs.Settling.{Anywhere, HasNoGroup, IsNextReady, StandsAtHome, StaysRead}
use Rattle.log_recovery.proofs.Meanings.{good_is, log_settled, only_read, pages_home, slot_readied}

-- what was told at the end was told at the start
told_before : (old new : Disk) → new.told ≡ old.told → Tells new → Tells old
told_before old new same told = sym same ∙ told

-- the contents are an image that may be left
contents_left : (disk : Disk) → AreBytes disk.now.contents → MayLeave disk.now disk.now.contents
contents_left disk bytes = record { synced = λ v k is. refl; bytes = bytes }

-- places are somewhere
pub anywhere : (old new : Disk) (places : Places) → Touches old new places → Touches old new Anywhere
anywhere old new places touches = touches-wider old new places Anywhere (λ v k is. tt) touches

pub anywhere_then : (old mid new : Disk) (places others : Places) → Touches old mid places → Touches mid new others → Touches old new Anywhere
anywhere_then old mid new places others one other = touches-then old mid new Anywhere (anywhere old mid places one) (anywhere mid new others other)

-- by reads alone nothing is changed
pub read_still : (d0 d1 : Disk) → (Tells d0 → IsSettled d0.now) → OnlyReads d0 d1 → StaysRead d0 d1
read_still d0 d1 settled reads told first pages was = only_read d0 (settled told) told first pages was d1 reads

module _ (d0 d1 : Disk) (redone : Redone) (sound : IsSound d0.sizes redone) (reads : OnlyReads d0 d1) where
  sound-read : IsSound d1.sizes redone
  sound-read = subst (λ (l : List ℕ). IsSound l redone) (sym reads.touches.sizes) sound

  pub has_volume : (vol : ℕ) → vol ≡ redone.anchor.log_vol → HasVolume d1 vol
  has_volume vol is = let ring = sound-read.usable.ring in let first = ring.first_volume in let last = ring.last_volume in (omega arith, omega arith)

  pub has_pages : (vol : ℕ) → vol ≡ redone.anchor.log_vol → 2 ≤ volume_pages d1.sizes vol
  has_pages vol is =
      let within = sound-read.usable.ring.within in
      subst (λ (v : ℕ). 2 ≤ volume_pages d1.sizes v) (sym is) (omega arith)

  -- so it is while the slot is made ready, whatever that answers
  pub readied_still : (Tells d0 → IsSettled d0.now) → (Tells d0 → (groups : List Group) × HasRecovered d0.sizes d0.now.contents groups redone) → (d2 : Disk) (vol slot : ℕ) → vol ≡ redone.anchor.log_vol → slot ≡ 1 - redone.anchor.slot → ReadiesSlot d1 d2 vol slot → StaysRead d0 d2
  readied_still settled recovered d2 vol slot is_vol is_slot readies told first pages was =
      slot_readied d0 (settled told) told first pages was d1 reads redone (recovered told).0 (recovered told).1 d2
      (subst (λ (v : ℕ). ReadiesSlot d1 d2 v (1 - redone.anchor.slot)) is_vol (subst (λ (s : ℕ). ReadiesSlot d1 d2 vol s) is_slot readies))

  module _ (settled : Tells d0 → IsSettled d0.now) (recovered : Tells d0 → (groups : List Group) × HasRecovered d0.sizes d0.now.contents groups redone) (d2 : Disk) (vol slot : ℕ) (is_vol : vol ≡ redone.anchor.log_vol) (is_slot : slot ≡ 1 - redone.anchor.slot)
      (readies : ReadiesSlot d1 d2 vol slot) (readied : HasReadied d1 d2 vol slot) (synced : StaysSynced d1 d2) where
    told-0 : Tells d2 → Tells d0
    told-0 told = told_before d0 d1 reads.touches.told (told_before d1 d2 readies.touches.told told)

    slot_readies : ReadiesSlot d1 d2 redone.anchor.log_vol (1 - redone.anchor.slot)
    slot_readies = subst (λ (v : ℕ). ReadiesSlot d1 d2 v (1 - redone.anchor.slot)) is_vol (subst (λ (s : ℕ). ReadiesSlot d1 d2 vol s) is_slot readies)

    ready_then : (told : Tells d0) → IsReadyToSettle d2 (recovered told).0 redone
    ready_then told =
        readies_to_settle d0 d1 d2 (recovered told).0 redone told (settled told) (recovered told).1 reads slot_readies
        (subst (λ (v : ℕ). HasReadied d1 d2 v (1 - redone.anchor.slot)) is_vol (subst (λ (s : ℕ). HasReadied d1 d2 vol s) is_slot readied)) synced

    to_settle : Tells d2 → (groups : List Group) × IsReadyToSettle d2 groups redone
    to_settle told = ((recovered (told-0 told)).0, ready_then (told-0 told))

    -- what the start is read as, each image is while the log is settled, and in the end it is home
    module _ (d3 : Disk) (brings : BringsHome d2 d3 redone.images (settled_anchor redone)) (readable : SettlesReadably d2 d3 redone) where
      pub settled_still : StaysRead d0 d3
      settled_still told first pages was = log_settled d0 (settled told) told first pages was d1 reads redone (recovered told).0 (recovered told).1 d2 slot_readies (ready_then told) d3 brings readable

      pub settled_home : HasBroughtHome d2 d3 redone.images (settled_anchor redone) → StandsAtHome d0 d3
      settled_home done told first pages was = pages_home d0 (settled told) told first pages was d1 reads redone (recovered told).0 (recovered told).1 d2 slot_readies (ready_then told) d3 brings readable done

    -- the anchor after it finds its slot ready
    pub next_slot_ready : (d3 : Disk) (next : Anchor) → HasBroughtHome d2 d3 redone.images (settled_anchor redone) → next ≡ settled_anchor redone → Tells d0 → IsNextReady d3 next
    next_slot_ready d3 next done is_next told = subst (IsNextReady d3) (sym is_next) after
      where
        told-2 : Tells d2
        told-2 = readies.touches.told ∙ reads.touches.told ∙ told

        after : IsNextReady d3 (settled_anchor redone)
        after later follows same = done.next_ready told-2 redone.anchor later (to_settle told-2).1.may_settle.ready refl follows same

    -- nothing is pending: what was written was synced, and nothing else
    pub all_synced : (d3 : Disk) → BringsHome d2 d3 redone.images (settled_anchor redone) → HasBroughtHome d2 d3 redone.images (settled_anchor redone) → Tells d0 → IsSettled d3.now
    all_synced d3 brings done told v k = elim (cases_eq v redone.anchor.log_vol) [
      | inl is ↦ ap (λ (w : ℕ). d3.now.unsynced w k) is ∙ done.anchor_synced told-2 k
      | inr other ↦ elim (cases_Bool (list_any (λ (image : PageImage). image.home.vol == v) redone.images)) [
        | inl some ↦ at_home some
        | inr none ↦ brings.writes.touches.synced told-2 v k (λ at. ⊎_elim (λ (home : IsAtHomes redone.images v k). elsewhere redone.images v home.0 none home.1 (sym home.2.0)) (λ slot. other slot.0) at) (was v k)
      ]
    ]
      where
        told-2 : Tells d2
        told-2 = readies.touches.told ∙ reads.touches.told ∙ told

        was : (v k : ℕ) → d2.now.unsynced v k ≡ false
        was v k = synced (reads.touches.told ∙ told) v k (ap (λ (m : Moment). m.unsynced v k) (reads.now told) ∙ settled told v k)

        few : (home : Home) → HasHome redone.images home → home.vol < 9
        few home has = let is : IsLoggable redone.anchor home = each_home (IsLoggable redone.anchor) redone.images home sound.loggable has in let last = is.last_volume in omega arith

        at_home : list_any (λ (image : PageImage). image.home.vol == v) redone.images ≡ true → d3.now.unsynced v k ≡ false
        at_home some =
            let home = home_on redone.images v some in
            ap (λ (w : ℕ). d3.now.unsynced w k) (sym home.2) ∙ done.synced told-2 home.0 home.1 (few home.0 home.1) k

    sizes-2 : d2.sizes ≡ d0.sizes
    sizes-2 = readies.touches.sizes ∙ reads.touches.sizes

    pub sound_still : IsSound d2.sizes redone
    sound_still = subst (λ (l : List ℕ). IsSound l redone) (sym sizes-2) sound

    pub still_counts : (Tells d2 → AreBytes d2.now.contents) → Tells d2 → IsAnchor d2.sizes d2.now.contents (Some redone.anchor)
    still_counts bytes told = ((to_settle told).1.may_settle.stands d2.now.contents (contents_left d2 (bytes told))).anchor_is

    pub no_group : (d3 : Disk) (next : Anchor) → BringsHome d2 d3 redone.images (settled_anchor redone) → HasBroughtHome d2 d3 redone.images (settled_anchor redone) → SettlesReadably d2 d3 redone → next ≡ settled_anchor redone → Tells d3 → HasNoGroup d3 next
    no_group d3 next brings done readable is_next told = subst (HasNoGroup d3) (sym is_next) behind
      where
        told-2 : Tells d2
        told-2 = told_before d2 d3 brings.writes.touches.told told

        behind : HasNoGroup d3 (settled_anchor redone)
        behind = record {
          stands = let may = to_settle told-2 in done.stands told-2 redone.anchor may.0 (settles_as_moves d2 may.0 redone may.1.may_settle);
          good = λ image left.
              let may = to_settle told-2 in
              let same = brings.writes.touches.sizes in
              let read = leaves-now d2 d3 (IsReadable d2.sizes) (readable told-2 may.0 may.1.may_settle may.1.good) image left in
              let log = done.stands told-2 redone.anchor may.0 (settles_as_moves d2 may.0 redone may.1.may_settle) image left in
              subst (λ (l : List ℕ). HasGoodAnchor l image (settled_anchor redone)) (sym same)
              (good_is d2.sizes image (settled_anchor redone) read (subst (λ (l : List ℕ). IsAnchor l image (Some (settled_anchor redone))) same log.anchor_is));
        }
