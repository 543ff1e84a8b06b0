-- A log that was recovered may be settled once the slot of its next anchor was made ready, and until
-- then each image is recovered in the same way.
use Rattle.std.proofs.Common.{◌≡◌, ◌+◌, ◌-◌, ◌*◌, ℕ, List, Some, inr, sym, ◌∙◌, ap, subst, arith}
use Rattle.log_ring.specs.volume_disk.Disk.{Disk, IsSettled, MayLeave, Moment, Tells}
use Rattle.log_ring.specs.volume_disk.Image.{Image, SameOutside}
use Rattle.log_ring.specs.volume_disk.Run.{LeavesOnly, MayLeaveTorn, OnlyReads}
use Rattle.log_ring.proofs.OfVolumeDisk.Laws.{both, only_reads-leaves, then_on, untorn, weaker}
use Rattle.log_ring.specs.disk_label.Anchor.{IsAnchor}
use Rattle.log_ring.specs.disk_label.Slot.{HasAnchor, HasReadied, IsBody, IsGate, IsReady, ReadiesSlot, StaysSynced}
use Rattle.log_ring.proofs.OfDiskLabel.Elsewhere.{shows_anchor}
use Rattle.log_ring.specs.Groups.{Group, HasLog}
use Rattle.log_ring.specs.Ring.{IsOnLog}
use Rattle.log_ring.specs.Settling.{IsRedoneAs}
use Rattle.log_ring.proofs.HomePages.{page-same}
use Rattle.log_ring.proofs.OnImages.{groups-same, read_on_log}
use Rattle.log_ring.proofs.Redoing.{redoes_alike}
use Rattle.log_recovery.specs.Laws.{IsAsRecovered, IsReadyToSettle, ReadiesToSettle, StaysRecovered}
use Rattle.log_recovery.specs.Outcome.{HasGoodAnchor, HasRecovered}
use Rattle.log_recovery.specs.declared.redone.Redone.{Redone}
use Rattle.log_recovery.proofs.GoodAnchors.{labels-same, would_be-same, would_be_good}

-- An image that has all that stood at the start but in the slot's body, and still the anchor.
module _ (start : Disk) (groups : List Group) (redone : Redone) (was : HasRecovered start.sizes start.now.contents groups redone) where
  abbrev vol : ℕ
  vol = redone.anchor.log_vol

  abbrev slot : ℕ
  slot = 1 - redone.anchor.slot

  module _ (image : Image) (outside : SameOutside (IsBody vol slot) start.now.contents image) (anchor_is : IsAnchor start.sizes image (Some redone.anchor)) where
    beside_log : (v k : ℕ) → IsOnLog redone.anchor v k → ¬ IsBody vol slot v k
    beside_log v k on is =
        let behind = was.good.in_range.log.behind in
        let low = on.1 in
        let high = is.2 in
        omega arith

    log : HasLog start.sizes redone.anchor groups image
    log = record {
      anchor_is = anchor_is;
      groups_are = groups-same redone.anchor redone.anchor.start redone.anchor.group groups start.now.contents image (λ v k read. outside v k (beside_log v k (read_on_log redone.anchor redone.anchor.start groups v k read))) was.log.groups_are;
      fits = was.log.fits;
    }

    good : HasGoodAnchor start.sizes image redone.anchor
    good =
        let labels = labels-same (IsBody vol slot) start.now.contents image (λ v k is. let low = is.1 in omega arith) outside in
        let would = would_be-same start.now.contents image start.sizes redone.anchor (λ vol member. labels vol) (would_be_good start.sizes start.now.contents redone.anchor was.good) in
        record { anchor_is = anchor_is; labelled = would.labelled; in_range = would.in_range }

    same_pages : IsRedoneAs groups start.now.contents groups image
    same_pages home other =
        redoes_alike groups start.now.contents image home
        (inr (ap Some (page-same home start.now.contents image (λ v k on. outside v k (λ body.
        let low = on.1 in
        let high = on.2 in
        let from = body.1 in
        let to = body.2 in
        other (omega arith))))))

    as_recovered : IsAsRecovered start groups redone image
    as_recovered = record { good = good; log = log; outside = outside; same = same_pages }

module _ (start found ready : Disk) (groups : List Group) (redone : Redone) (told : Tells start) (settled : IsSettled start.now) (was : HasRecovered start.sizes start.now.contents groups redone) (reads : OnlyReads start found)
    (readies : ReadiesSlot found ready redone.anchor.log_vol (1 - redone.anchor.slot)) where
  abbrev its_vol : ℕ
  its_vol = redone.anchor.log_vol

  abbrev next_slot : ℕ
  next_slot = 1 - redone.anchor.slot

  told-found : Tells found
  told-found = reads.touches.told ∙ told

  sizes : ready.sizes ≡ start.sizes
  sizes = readies.touches.sizes ∙ reads.touches.sizes

  settled-found : IsSettled found.now
  settled-found v k = ap (λ (m : Moment). m.unsynced v k) (reads.now told) ∙ settled v k

  has-start : HasAnchor start (Some redone.anchor)
  has-start = shows_anchor start (Some redone.anchor) (λ v k on. settled v k) was.good.anchor_is

  has : HasAnchor found (Some redone.anchor)
  has =
      shows_anchor found (Some redone.anchor) (λ v k on. settled-found v k)
      (subst (λ (m : Moment). IsAnchor found.sizes m.contents (Some redone.anchor)) (sym (reads.now told)) (subst (λ (l : List ℕ). IsAnchor l start.now.contents (Some redone.anchor)) (sym reads.touches.sizes) was.good.anchor_is))

  -- At each moment.

  at_start : (image : Image) → MayLeave start.now image → IsAsRecovered start groups redone image
  at_start image left = as_recovered start groups redone was image (λ v k out. left.synced v k (settled v k)) (has-start image left)

  abbrev Torn : Image → Type 0
  Torn = MayLeaveTorn (IsBody its_vol next_slot) found.now

  abbrev Has : Image → Type 0
  Has image = IsAnchor found.sizes image (Some redone.anchor)

  since_then : (image : Image) → Torn image × Has image → IsAsRecovered start groups redone image
  since_then image is =
      let torn = is.0 in
      as_recovered start groups redone was image
      (λ v k out. torn.2 v k out ∙ torn.1.synced v k (settled-found v k) ∙ ap (λ (m : Moment). m.contents v k) (reads.now told))
      (subst (λ (l : List ℕ). IsAnchor l image (Some redone.anchor)) reads.touches.sizes is.1)

  pub any_moment : LeavesOnly start ready (IsAsRecovered start groups redone)
  any_moment =
      then_on start found ready (IsAsRecovered start groups redone) (only_reads-leaves start found (IsAsRecovered start groups redone) told reads at_start)
      (weaker found ready (λ image. Torn image × Has image) (IsAsRecovered start groups redone) since_then
      (both found ready Torn Has (readies.touches.tears told-found) (readies.any_moment told-found (Some redone.anchor) has (settled-found its_vol (8192 + 4096 * next_slot)))))

  -- Once it is done.
  module _ (readied : HasReadied found ready redone.anchor.log_vol (1 - redone.anchor.slot)) (synced : StaysSynced found ready) where
    settled-ready : IsSettled ready.now
    settled-ready v k = synced told-found v k (settled-found v k)

    is_ready : IsReady ready (Some redone.anchor) its_vol next_slot
    is_ready = readied told-found (Some redone.anchor) has (settled-found its_vol (8192 + 4096 * next_slot)) (λ stands. let same = stands.1 in omega arith)

    still : (image : Image) → MayLeave ready.now image → IsAsRecovered start groups redone image
    still image left =
        as_recovered start groups redone was image
        (λ v k out. left.synced v k (settled-ready v k) ∙ readies.touches.contents told-found v k out ∙ ap (λ (m : Moment). m.contents v k) (reads.now told))
        (subst (λ (l : List ℕ). IsAnchor l image (Some redone.anchor)) sizes (is_ready image (untorn (IsGate its_vol next_slot) ready.now image left)))

    pub ready_to_settle : IsReadyToSettle ready groups redone
    ready_to_settle = record {
      may_settle = record {
        behind = let behind = was.good.in_range.log.behind in omega arith;
        stands = λ image left. subst (λ (l : List ℕ). HasLog l redone.anchor groups image) (sym sizes) (still image left).log;
        images = was.images;
        place = was.next_place;
        ready = is_ready;
      };
      good = λ image left. subst (λ (l : List ℕ). HasGoodAnchor l image redone.anchor) (sym sizes) (still image left).good;
      settled = settled-ready;
    }

pub stays_recovered : (start found ready : Disk) (groups : List Group) (redone : Redone) → StaysRecovered start found ready groups redone
stays_recovered start found ready groups redone told settled was reads readies = any_moment start found ready groups redone told settled was reads readies

pub readies_to_settle : (start found ready : Disk) (groups : List Group) (redone : Redone) → ReadiesToSettle start found ready groups redone
readies_to_settle start found ready groups redone told settled was reads readies readied synced = ready_to_settle start found ready groups redone told settled was reads readies readied synced
