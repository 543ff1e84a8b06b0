-- The marks of a logged rack after a force.
use Rattle.std.proofs.Common.{◌≡◌, ℕ, ◌+◌, Bool, true, false, sym, ◌∙◌, ap}
use Rattle.meta_log.specs.volume_disk.Disk.{Disk, Tells, put_at}
use Rattle.meta_log.specs.volume_disk.Image.{Places}
use Rattle.meta_log.specs.log_ring.Groups.{span}
use Rattle.meta_log.specs.log_ring.Ring.{IsOnPlaces}
use Rattle.meta_log.specs.Force.{Forces, IsSyncedOn}
use Rattle.meta_log.specs.Log.{Log, pending_groups, used}
use Rattle.logged_rack.specs.Pending.{IsSound}
use Rattle.logged_rack.proofs.Sound.{sound_synced, sound_written}

module _ (marks now : ℕ → Bool) (vol : ℕ) (old new : Disk) (log after : Log) (is : vol ≡ log.anchor.log_vol) (forces : Forces old new log) (anchor : after.anchor ≡ log.anchor) (sound : IsSound old log marks) where
  abbrev Ring : Places
  Ring = IsOnPlaces log.anchor (log.anchor.start + used log) (span (pending_groups log) + 1)

  on_volume : (v k : ℕ) → Ring v k → v ≡ vol
  on_volume v k at = at.2.0 ∙ sym is

  -- it passed, and the log's volume is synced
  pub sound_forced : now ≡ put_at marks vol false → (Tells old → IsSyncedOn log.anchor.log_vol new.now) → IsSound new after now
  sound_forced marks_are synced =
      sound_synced marks now vol Ring on_volume old new forces.writes.touches log after anchor sound marks_are
      (λ told k. ap (λ (w : ℕ). new.now.unsynced w k) is ∙ synced told k)

  -- it was cut short
  pub sound_cut_short : now ≡ put_at marks vol true → IsSound new after now
  sound_cut_short marks_are = sound_written marks now vol Ring on_volume old new forces.writes.touches log after anchor sound marks_are
