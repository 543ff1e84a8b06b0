-- What holds of a logged rack once it has made calls.
use Rattle.std.proofs.Common.{◌≡◌, ℕ, ◌+◌, ◌<◌, Bool, true, false, List, replicate, sym, ◌∙◌, ap, subst, inl, inr, arith}
use Rattle.std.proofs.lemmas.Bool.{both_ways}
use Rattle.meta_log.specs.disk_label.declared.anchor.Anchor.{Anchor}
use Rattle.meta_log.specs.volume_disk.Disk.{Disk, IsSettled, PendsWithin, Tells, put_at}
use Rattle.meta_log.specs.volume_disk.Image.{NoPlace, Places}
use Rattle.meta_log.specs.volume_disk.Run.{Touches}
use Rattle.meta_log.specs.log_ring.Homes.{HasMembers, IsLoggable}
use Rattle.meta_log.specs.log_ring.Ring.{IsRing}
use Rattle.meta_log.specs.log_ring.Settling.{IsAtHomesOrSlot}
use Rattle.meta_log.proofs.OfLogRing.HomePages.{each_home}
use Rattle.meta_log.specs.Checkpoint.{Checkpoints, HasCheckpointed, next_anchor}
use Rattle.meta_log.specs.Force.{IsSyncedOn}
use Rattle.meta_log.specs.Log.{IsLog, Log, new_log}
use Rattle.logged_rack.specs.Pending.{IsSound, PendsOn, marks_of}
use Rattle.logged_rack.proofs.Marked.{all_marked, cleared_too, marked_as_written, not_pending, unmarked_as_synced}

-- the ring and the members lie in a rack of the same sizes
ring_still : (old new : Disk) (anchor : Anchor) → new.sizes ≡ old.sizes → IsRing old.sizes anchor → IsRing new.sizes anchor
ring_still old new anchor same ring = subst (λ (sizes : List ℕ). IsRing sizes anchor) (sym same) ring

members_still : (old new : Disk) (anchor : Anchor) → new.sizes ≡ old.sizes → HasMembers old.sizes anchor → HasMembers new.sizes anchor
members_still old new anchor same members = subst (λ (sizes : List ℕ). HasMembers sizes anchor) (sym same) members

-- where nothing is pending, no volume need be marked
pub sound_settled : (disk : Disk) (log : Log) (marks : ℕ → Bool) → IsRing disk.sizes log.anchor → HasMembers disk.sizes log.anchor → (Tells disk → IsSettled disk.now) → IsSound disk log marks
sound_settled disk log marks ring members settled = record { ring = ring; members = members; pends = λ told v k unmarked. settled told v k }

-- a log with the same anchor
pub sound_same : (disk : Disk) (log now : Log) (marks : ℕ → Bool) → now.anchor ≡ log.anchor → IsSound disk log marks → IsSound disk now marks
sound_same disk log now marks anchor sound = record {
  ring = subst (λ (a : Anchor). IsRing disk.sizes a) (sym anchor) sound.ring;
  members = subst (λ (a : Anchor). HasMembers disk.sizes a) (sym anchor) sound.members;
  pends = sound.pends;
}

-- calls that wrote nothing
pub sound_still : (old new : Disk) (log : Log) (marks : ℕ → Bool) → Touches old new NoPlace → IsSound old log marks → IsSound new log marks
sound_still old new log marks touches sound = record {
  ring = ring_still old new log.anchor touches.sizes sound.ring;
  members = members_still old new log.anchor touches.sizes sound.members;
  pends = λ told v k unmarked.
      let told_old : Tells old = sym touches.told ∙ told in
      touches.synced told_old v k (λ none. none) (sound.pends told_old v k unmarked);
}

module _ (marks now : ℕ → Bool) (vol : ℕ) (places : Places) (on : (v k : ℕ) → places v k → v ≡ vol) (old new : Disk) (touches : Touches old new places) (log after : Log) (anchor : after.anchor ≡ log.anchor) (sound : IsSound old log marks) where
  sound_with : (Tells new → PendsOn now new.now) → IsSound new after now
  sound_with pends = record {
    ring = subst (λ (a : Anchor). IsRing new.sizes a) (sym anchor) (ring_still old new log.anchor touches.sizes sound.ring);
    members = subst (λ (a : Anchor). HasMembers new.sizes a) (sym anchor) (members_still old new log.anchor touches.sizes sound.members);
    pends = pends;
  }

  -- one volume was written, and is marked
  pub sound_written : now ≡ put_at marks vol true → IsSound new after now
  sound_written is = sound_with (λ told. subst (λ (m : ℕ → Bool). PendsOn m new.now) (sym is) (marked_as_written marks vol places on old new touches sound.pends told))

  -- it was synced, and is not
  pub sound_synced : now ≡ put_at marks vol false → (Tells old → IsSyncedOn vol new.now) → IsSound new after now
  sound_synced is synced =
      sound_with (λ told. subst (λ (m : ℕ → Bool). PendsOn m new.now) (sym is)
      (unmarked_as_synced marks vol places on old new touches sound.pends told (synced (sym touches.told ∙ told))))

-- A log that comes home.
module _ (old new : Disk) (log after : Log) (marks : ℕ → Bool) (checkpoints : Checkpoints old new log (next_anchor log log.anchor)) (sound : IsSound old log marks) where
  -- it was cut short, and all volumes are marked
  pub sound_not_home : (Tells new → PendsWithin new) → after ≡ log → IsSound new after (marks_of (replicate 8 true))
  sound_not_home within is =
      subst (λ (l : Log). IsSound new l (marks_of (replicate 8 true))) (sym is)
      (record {
        ring = ring_still old new log.anchor checkpoints.writes.touches.sizes sound.ring;
        members = members_still old new log.anchor checkpoints.writes.touches.sizes sound.members;
        pends = λ told. all_marked new (within told);
      })

  module _ (is : IsLog log) (done : HasCheckpointed old new log (next_anchor log log.anchor)) where
    -- what was written is synced
    synced_there : Tells old → (v k : ℕ) → IsAtHomesOrSlot log.logged (next_anchor log log.anchor) v k → new.now.unsynced v k ≡ false
    synced_there told v k (inl at) =
        let loggable : IsLoggable log.anchor at.0 = each_home (IsLoggable log.anchor) log.logged at.0 is.logged at.1 in
        let few = loggable.last_volume in
        ap (λ (w : ℕ). new.now.unsynced w k) at.2.0 ∙ done.synced told at.0 at.1 (omega (arith, few)) k
    synced_there told v k (inr at) = ap (λ (w : ℕ). new.now.unsynced w k) at.0 ∙ done.anchor_synced told k

    -- and the rest as it was
    still_pends : Tells old → PendsOn marks new.now
    still_pends told v k unmarked =
        not_pending (new.now.unsynced v k) (λ pending.
        both_ways (new.now.unsynced v k)
        (checkpoints.writes.touches.synced told v k (λ at. both_ways (new.now.unsynced v k) (synced_there told v k at) pending) (sound.pends told v k unmarked)) pending)

    sound_restarted : (vol : ℕ) → vol ≡ log.anchor.log_vol → IsSound new (new_log (next_anchor log log.anchor)) (put_at marks vol false)
    sound_restarted vol vol_is = record {
      ring =
          let ring = ring_still old new log.anchor checkpoints.writes.touches.sizes sound.ring in
          record {
            first_volume = ring.first_volume;
            last_volume = ring.last_volume;
            few_volumes = ring.few_volumes;
            behind = ring.behind;
            within = ring.within;
            limit = ring.limit;
          };
      members = members_still old new log.anchor checkpoints.writes.touches.sizes sound.members;
      pends = λ told.
          let told_old : Tells old = sym checkpoints.writes.touches.told ∙ told in
          cleared_too marks vol new.now (still_pends told_old) (λ k. ap (λ (w : ℕ). new.now.unsynced w k) vol_is ∙ done.anchor_synced told_old k);
    }

    -- it goes on after the next anchor, and its volume is not marked
    pub sound_home : (now : ℕ → Bool) (vol : ℕ) → vol ≡ log.anchor.log_vol → now ≡ put_at marks vol false → after ≡ new_log (next_anchor log log.anchor) → IsSound new after now
    sound_home now vol vol_is marks_are after_is =
        subst (λ (l : Log). IsSound new l now) (sym after_is)
        (subst (λ (m : ℕ → Bool). IsSound new (new_log (next_anchor log log.anchor)) m) (sym marks_are) (sound_restarted vol vol_is))
