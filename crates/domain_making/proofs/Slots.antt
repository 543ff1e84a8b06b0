-- Both slots of the first volume made ready, one after the other.
use Rattle.std.proofs.Common.{◌∙◌, ℕ, ◌+◌, ◌*◌, ◌≤◌, None, sym, subst, arith}
use Rattle.domain_layout.specs.domain_base.declared.version.Version.{Version}
use Rattle.domain_layout.specs.volume_disk.Disk.{Disk, Tells}
use Rattle.domain_layout.specs.volume_disk.Image.{IsIn}
use Rattle.domain_layout.specs.volume_disk.Run.{LeavesOnly, OnlyWrites, Touches}
use Rattle.domain_layout.proofs.OfVolumeDisk.Laws.{leaves-now, then_on, touches-then, touches-wider}
use Rattle.domain_layout.specs.disk_label.Anchor.{IsAnchor}
use Rattle.domain_layout.specs.disk_label.Label.{label_bytes}
use Rattle.domain_layout.specs.disk_label.Slot.{HasAnchor, HasReadied, IsBody, IsReady, ReadiesSlot, StaysSynced}
use Rattle.domain_making.specs.Making.{AreSlotsReady}
use Rattle.domain_making.specs.Written.{HasNewLabel, IsFirstSynced, IsInFront}
use Rattle.domain_making.proofs.Regions.{bytes_same, length-label}

-- ---- the two slots

body_within : (slot : ℕ) → slot ≤ 1 → (v k : ℕ) → IsBody 1 slot v k → IsIn 1 8192 8192 v k
body_within slot low v k is_in = (is_in.0, omega (arith, is_in.1), omega (arith, is_in.2, low))

pub slot_within : (d0 d1 : Disk) (slot : ℕ) → slot ≤ 1 → ReadiesSlot d0 d1 1 slot → Touches d0 d1 (IsIn 1 8192 8192)
slot_within d0 d1 slot low readies = touches-wider d0 d1 (IsBody 1 slot) (IsIn 1 8192 8192) (body_within slot low) readies.touches

module _ (d0 d1 : Disk) (slot : ℕ) (one : ReadiesSlot d0 d1 1 slot) (told : Tells d0) (has : HasAnchor d0 None) (synced : IsFirstSynced d0.now) where
  pub slot_since : LeavesOnly d0 d1 (λ image. IsAnchor d0.sizes image None)
  slot_since = one.any_moment told None has (synced (8192 + 4096 * slot))

  has_still : HasAnchor d1 None
  has_still image left = subst (λ sizes. IsAnchor sizes image None) (sym one.touches.sizes) (leaves-now d0 d1 (λ image. IsAnchor d0.sizes image None) slot_since image left)

module _ (d0 d1 d2 : Disk) (one : ReadiesSlot d0 d1 1 0) (two : ReadiesSlot d1 d2 1 1) where
  pub both_within : Touches d0 d2 (IsIn 1 8192 8192)
  both_within = touches-then d0 d1 d2 (IsIn 1 8192 8192) (slot_within d0 d1 0 (omega arith) one) (slot_within d1 d2 1 (omega arith) two)

  module _ (stays : StaysSynced d0 d1) (told : Tells d0) (has : HasAnchor d0 None) (synced : IsFirstSynced d0.now) where
    told_1 : Tells d1
    told_1 = one.touches.told ∙ told

    synced_1 : IsFirstSynced d1.now
    synced_1 k = stays told 1 k (synced k)

    has_1 : HasAnchor d1 None
    has_1 = has_still d0 d1 0 one told has synced

    pub both_since : LeavesOnly d0 d2 (λ image. IsAnchor d0.sizes image None)
    both_since =
        then_on d0 d1 d2 (λ image. IsAnchor d0.sizes image None) (slot_since d0 d1 0 one told has synced)
        (subst (λ sizes. LeavesOnly d1 d2 (λ image. IsAnchor sizes image None)) one.touches.sizes (slot_since d1 d2 1 two told_1 has_1 synced_1))

    pub both_ready : HasReadied d0 d1 1 0 → HasReadied d1 d2 1 1 → AreSlotsReady d2
    both_ready first second =
        let ready : IsReady d1 None 1 0 = first told None has (synced (8192 + 4096 * 0)) (λ none. none) in (
          two.others told_1 None 1 0 (synced_1 (8192 + 4096 * 1)) (λ same. omega (arith, same.1)) ready,
          second told_1 None has_1 (synced_1 (8192 + 4096 * 1)) (λ none. none),
        )

-- ---- and all before that

module _ (d0 d1 d2 : Disk) (first : OnlyWrites d0 d1 IsInFront) where
  pub prepared : Touches d1 d2 (IsIn 1 8192 8192) → Touches d0 d2 IsInFront
  prepared second =
      touches-then d0 d1 d2 IsInFront first.touches
      (touches-wider d1 d2 (IsIn 1 8192 8192) IsInFront (λ v k is_in. (is_in.0, omega arith, omega (arith, is_in.2))) second)

  pub prepared_since : Tells d0 → LeavesOnly d0 d1 (λ image. IsAnchor d0.sizes image None) → LeavesOnly d1 d2 (λ image. IsAnchor d1.sizes image None) → LeavesOnly d0 d2 (λ image. IsAnchor d0.sizes image None)
  prepared_since told one two =
      then_on d0 d1 d2 (λ image. IsAnchor d0.sizes image None) one
      (subst (λ sizes. LeavesOnly d1 d2 (λ image. IsAnchor sizes image None)) first.touches.sizes two)

pub label_still : (d1 d2 : Disk) (version : Version) (pages : ℕ) → Touches d1 d2 (IsIn 1 8192 8192) → Tells d1 → HasNewLabel version pages d1.now.contents → HasNewLabel version pages d2.now.contents
label_still d1 d2 version pages touches told label =
    bytes_same (8192 * 0) (label_bytes 1 pages version) d1.now.contents d2.now.contents
    (λ k low high. let long = length-label pages version in touches.contents told 1 k (λ is_in. omega (arith, is_in.1, high, long))) label
