-- Volumes synced one after the other, until nothing is pending.
use Rattle.std.proofs.Common.{◌≡◌, ℕ, ◌+◌, Bool, true, false, refl, ◌∙◌, ap, inl, inr, arith}
use Rattle.std.proofs.lemmas.Bool.{cases_eq, cases_lt}
use Rattle.volume_disk.specs.Disk.{Disk, HasVolume, IsSettled, Moment, PendsWithin, Syncs}
use Rattle.volume_disk.specs.Run.{IsSettledBelow}

-- a place that can't be pending is synced
not_pending : (b : Bool) → (b ≡ true → ⊥) → b ≡ false
not_pending true not = absurd (not refl)
not_pending false not = refl

-- one volume more is synced
pub one_more_settled : (vol : ℕ) (old new : Moment) → Syncs vol old new → IsSettledBelow vol old → IsSettledBelow (vol + 1) new
one_more_settled vol old new syncs so_far v k below = elim (cases_eq v vol) [
  | inl is ↦ ap (λ (w : ℕ). new.unsynced w k) is ∙ syncs.here k
  | inr other ↦ syncs.elsewhere v k other ∙ so_far v k (omega arith)
]

module _ (disk : Disk) (within : PendsWithin disk) where
  -- nothing is pending on a volume that the rack has not
  pub none_there : (vol : ℕ) → ¬ HasVolume disk vol → IsSettledBelow vol disk.now → IsSettledBelow (vol + 1) disk.now
  none_there vol none so_far v k below = elim (cases_eq v vol) [
    | inl is ↦ not_pending (disk.now.unsynced v k) (λ pending. let there = (within v k pending).0 in let low = there.0 in let high = there.1 in none (omega arith, omega arith))
    | inr other ↦ so_far v k (omega arith)
  ]

  -- volumes are counted from 1
  pub none_before : IsSettledBelow 1 disk.now
  none_before v k below = not_pending (disk.now.unsynced v k) (λ pending. let low = (within v k pending).0.0 in omega arith)

  -- and a domain has no ninth
  pub all_settled : IsSettledBelow 9 disk.now → IsSettled disk.now
  all_settled so_far v k = elim (cases_lt v 9) [
    | inl below ↦ so_far v k below
    | inr past ↦ not_pending (disk.now.unsynced v k) (λ pending. let few = (within v k pending).1 in omega arith)
  ]
