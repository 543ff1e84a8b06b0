-- A force with nothing pending.
use Rattle.std.proofs.Common.{◌≡◌, ◌↔◌, ◌+◌, ◌<◌, ℕ, Bool, false, IsTrue, List, [], ◌∷◌, ◌++◌, length, refl, sym, ◌∙◌, ap, inl, subst, arith}
use Rattle.std.proofs.lemmas.Bool.{both_ways}
use Rattle.std.proofs.lemmas.List.{append-nil}
use Rattle.meta_log.specs.volume_disk.Disk.{Disk}
use Rattle.meta_log.specs.log_ring.Groups.{Group, span}
use Rattle.meta_log.specs.log_ring.Ring.{IsOnPlaces}
use Rattle.meta_log.specs.log_ring.declared.image.PageImage.{PageImage}
use Rattle.meta_log.proofs.OfVolumeDisk.Laws.{started, touches-none}
use Rattle.meta_log.specs.Force.{Forces, HasEither, HasForced, HasMoreOnceSynced, forced}
use Rattle.meta_log.specs.Log.{Log, Stands, groups_of, next_number, pending_groups, used}

pub none_pending : (some : Bool) (images : List PageImage) → (IsTrue some ↔ (0 < length images)) → some ≡ false → images ≡ []
none_pending some [] is none = refl
none_pending some (image ∷ images) is none = absurd (both_ways some none (is.1 (omega arith)))

pub forces_nothing : (disk : Disk) (log : Log) → Forces disk disk log
forces_nothing disk log = record {
  writes = record { touches = touches-none disk (IsOnPlaces log.anchor place (span (pending_groups log) + 1)); read_faults = refl };
  any_moment = λ told groups stands. started disk (HasEither disk.sizes log.anchor groups (groups ++ pending_groups log)) (λ image left. inl (stands.stands image left));
  synced = λ told groups stands. started disk (HasMoreOnceSynced disk log.anchor place (span (pending_groups log) + 1) groups (pending_groups log)) (λ image left. inl (stands.stands image left));
}
  where
    place : ℕ
    place = log.anchor.start + used log

pub forced_nothing : (log : Log) → log.pending ≡ [] → log ≡ forced log
forced_nothing log none = λ i. record { anchor = log.anchor; groups = groups i; logged = logged i; pending = none i }
  where
    groups : log.groups ≡ log.groups + length (pending_groups log)
    groups = let is = ap (λ (l : List PageImage). length (groups_of (next_number log) l)) none in omega (arith, is)

    logged : log.logged ≡ log.logged ++ log.pending
    logged = sym (ap (λ (l : List PageImage). log.logged ++ l) none ∙ append-nil log.logged)

pub has_forced_nothing : (disk : Disk) (log : Log) → log.pending ≡ [] → HasForced disk disk log
has_forced_nothing disk log none told groups stands =
    subst (λ (all : List Group). Stands disk (forced log) all) (sym (ap (λ (l : List PageImage). groups ++ groups_of (next_number log) l) none ∙ append-nil groups))
    (subst (λ (l : Log). Stands disk l groups) (forced_nothing log none) stands)
