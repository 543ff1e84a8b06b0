-- What a log that was recovered has for its next anchor.
use Rattle.std.proofs.Common.{◌≡◌, ℕ, ◌+◌, ◌*◌, ◌%◌, List, Some, eqb, true, refl, sym, ◌∙◌, ap, subst, arith}
use Rattle.std.proofs.lemmas.Bool.{eq-eqb}
use Rattle.log_ring.specs.volume_disk.Disk.{Disk, MayLeave}
use Rattle.log_ring.specs.volume_disk.Image.{Image}
use Rattle.log_ring.specs.disk_label.Anchor.{IsNext}
use Rattle.log_ring.specs.Groups.{Group, HasLog, span}
use Rattle.log_ring.proofs.OnImages.{next_closed}
use Rattle.log_recovery.specs.Laws.{MaySettleSynced}
use Rattle.log_recovery.specs.Settled.{SettlesAsMoves, settled_anchor}
use Rattle.log_recovery.specs.declared.redone.Redone.{Redone}

-- it is the next one
pub is_next : (redone : Redone) → IsNext (Some redone.anchor) (settled_anchor redone)
is_next redone = let same : eqb redone.anchor.log_vol redone.anchor.log_vol ≡ true = eq-eqb redone.anchor.log_vol redone.anchor.log_vol refl in (refl, rw same refl)

pub settles_as_moves : (disk : Disk) (groups : List Group) (redone : Redone) → SettlesAsMoves disk groups redone
settles_as_moves disk groups redone may = record {
  behind = may.behind;
  stands = may.stands;
  has = may.images;
  ready = may.ready;
  closed = λ image left.
      let log = may.stands image left in
      let shut = next_closed redone.anchor image groups redone.anchor.start redone.anchor.group log.groups_are in
      λ is_open. shut (subst (λ (page : ℕ). image redone.anchor.log_vol (8192 * (redone.anchor.log_page + page)) ≡ 165) place is_open);
}
  where
    place : redone.next_place % 128 ≡ (redone.anchor.start + span groups) % 128
    place = let is = may.place in ap (λ (n : ℕ). n % 128) is ∙ omega arith

-- where nothing is pending, each image is the contents
pub may_settle_synced : (disk : Disk) (groups : List Group) (redone : Redone) → MaySettleSynced disk groups redone
may_settle_synced disk groups redone settled found ready = record {
  behind = let behind = found.good.in_range.log.behind in omega arith;
  stands = λ image left. subst (HasLog disk.sizes redone.anchor groups) (contents image left) found.log;
  images = found.images;
  place = found.next_place;
  ready = ready;
}
  where
    contents : (image : Image) → MayLeave disk.now image → disk.now.contents ≡ image
    contents image left = λ i v k. sym (left.synced v k (settled v k)) i
