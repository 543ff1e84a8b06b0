-- A checkpoint, as the images of a log brought home.
use Rattle.std.proofs.Common.{◌≡◌, ◌⊎◌, ◌==◌, ◌+◌, ◌%◌, Bool, true, false, cond, List, Option, Some, refl, sym, ◌∙◌, ap, subst, inl, inr, arith}
use Rattle.std.proofs.lemmas.Bool.{and_parts, both_ways, cases_Bool, eqb-true}
use Rattle.log_ring.specs.volume_disk.Disk.{Disk, MayLeave}
use Rattle.log_ring.specs.volume_disk.Image.{Image}
use Rattle.log_ring.specs.disk_label.Anchor.{IsAnchor, IsNext}
use Rattle.log_ring.specs.disk_label.declared.anchor.Anchor.{Anchor}
use Rattle.log_ring.specs.declared.image.PageImage.{PageImage}
use Rattle.log_ring.specs.Groups.{Group, span}
use Rattle.log_ring.specs.Ring.{IsGateOpen, ring_byte}
use Rattle.log_ring.specs.Settling.{BringsHome, HasBroughtHome, MayMove}
use Rattle.log_ring.proofs.OnImages.{next_closed}
use Rattle.meta_log.specs.Checkpoint.{Checkpoints, HasCheckpointed, MayCheckpoint, next_anchor, same_ring}
use Rattle.meta_log.specs.Log.{IsLog, Log, used}
use Rattle.meta_log.proofs.Pending.{span_used}

module _ (log : Log) (is : IsLog log) (given : Anchor) where
  abbrev next : Anchor
  next = next_anchor log given

  -- on the same ring, the next start is the place of the closed gate
  same_gate : (image : Image) (groups : List Group) → span groups ≡ used log → same_ring log.anchor given ≡ true → IsGateOpen image next next.start → IsGateOpen image log.anchor (log.anchor.start + span groups)
  same_gate image groups spans same is_open =
      let parts = and_parts (log.anchor.log_vol == given.log_vol) (log.anchor.log_page == given.log_page) same in
      let vol : log.anchor.log_vol ≡ given.log_vol = eqb-true log.anchor.log_vol given.log_vol parts.0 in
      let page : log.anchor.log_page ≡ given.log_page = eqb-true log.anchor.log_page given.log_page parts.1 in
      let start : next.start ≡ (log.anchor.start + used log) % 128 = ap (λ (b : Bool). cond b ((log.anchor.start + used log) % 128) 0) same in
      let byte : ring_byte log.anchor (log.anchor.start + span groups) ≡ ring_byte next next.start = omega arith in
      ap (λ v. image v (ring_byte log.anchor (log.anchor.start + span groups))) vol ∙ ap (image given.log_vol) byte ∙ is_open

  pub may_move : (disk : Disk) (groups : List Group) → MayCheckpoint disk log groups next → MayMove disk log.anchor groups log.logged next
  may_move disk groups may = record {
    behind = is.behind;
    stands = may.stands.stands;
    has = may.stands.images;
    ready = may.ready;
    closed = λ image left. go image left (cases_Bool (same_ring log.anchor given));
  }
    where
      go : (image : Image) → MayLeave disk.now image → (same_ring log.anchor given ≡ true) ⊎ (same_ring log.anchor given ≡ false) → ¬ IsGateOpen image next next.start
      go image left (inl same) is_open =
          next_closed log.anchor image groups log.anchor.start log.anchor.group (may.stands.stands image left).groups_are
          (same_gate image groups (span_used log is disk groups may.stands) same is_open)
      go image left (inr other) is_open = may.closed (λ same. both_ways (same_ring log.anchor given) other same) image left is_open

  -- what is said of images and an anchor is said of those of the log
  module _ (images : List PageImage) (anchor : Anchor) (images_are : images ≡ log.logged) (anchor_is : anchor ≡ next) (old new : Disk) where
    pub checkpoints : BringsHome old new images anchor → Checkpoints old new log next
    checkpoints brings =
        let here : BringsHome old new log.logged next = subst (λ (a : Anchor). BringsHome old new log.logged a) anchor_is (subst (λ (l : List PageImage). BringsHome old new l anchor) images_are brings) in
        record {
          writes = here.writes;
          any_moment = λ told groups may. here.any_moment told log.anchor groups (may_move old groups may);
        }

    pub checkpointed : HasBroughtHome old new images anchor → HasCheckpointed old new log next
    checkpointed brought =
        let here : HasBroughtHome old new log.logged next = subst (λ (a : Anchor). HasBroughtHome old new log.logged a) anchor_is (subst (λ (l : List PageImage). HasBroughtHome old new l anchor) images_are brought) in
        record {
          stands = λ told groups may. record { stands = here.stands told log.anchor groups (may_move old groups may); images = refl; count = refl };
          same = λ told groups may. here.same told log.anchor groups (may_move old groups may);
          next_ready = λ told later ready same follows stays. here.next_ready told log.anchor later ready same follows stays;
          synced = here.synced;
          anchor_synced = here.anchor_synced;
          others = λ told vol slot ready other_ready other. here.others told (Some log.anchor) vol slot ready other_ready other;
        }

  -- it is the next one
  pub is_next : (disk : Disk) (anchor : Anchor) → anchor ≡ next → IsAnchor disk.sizes disk.now.contents (Some log.anchor) → (before : Option Anchor) × IsAnchor disk.sizes disk.now.contents before × IsNext before anchor
  is_next disk anchor anchor_is was = (Some log.anchor, was, subst (λ (a : Anchor). IsNext (Some log.anchor) a) (sym anchor_is) (refl, refl))
