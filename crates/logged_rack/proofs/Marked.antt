-- Which volumes are marked, once something was written or synced there.
use Rattle.std.proofs.Common.{◌≡◌, ◌≢◌, ◌==◌, ℕ, zero, suc, ◌+◌, ◌<◌, ◌≤◌, Bool, true, false, cond, List, get_or, replicate, refl, sym, ◌∙◌, ap, subst, add-one, inl, inr, arith}
use Rattle.std.proofs.lemmas.Bool.{both_ways, cases_eq, cases_lt, eq-eqb, ne_eqb}
use Rattle.std.proofs.lemmas.List.{get_or-replicate}
use Rattle.meta_log.specs.volume_disk.Disk.{Disk, HasVolume, IsSettled, Moment, PendsWithin, Tells, put_at}
use Rattle.meta_log.specs.volume_disk.Image.{Places}
use Rattle.meta_log.specs.volume_disk.Run.{Touches}
use Rattle.logged_rack.specs.Pending.{AreUnmarkedBelow, PendsOn, marked_below, marks_of}

-- The mark of a volume that was set, and that of another one.

pub put_at-here : (marks : ℕ → Bool) (vol v : ℕ) (mark : Bool) → v ≡ vol → put_at marks vol mark v ≡ mark
put_at-here marks vol v mark same = let at : (v == vol) ≡ true = eq-eqb v vol same in rw at refl

pub put_at-other : (marks : ℕ → Bool) (vol v : ℕ) (mark : Bool) → v ≢ vol → put_at marks vol mark v ≡ marks v
put_at-other marks vol v mark other = let at : (v == vol) ≡ false = ne_eqb v vol other in rw at refl

-- One volume was touched.
module _ (marks : ℕ → Bool) (vol : ℕ) (places : Places) (on : (v k : ℕ) → places v k → v ≡ vol) (old new : Disk) (touches : Touches old new places) (pends : Tells old → PendsOn marks old.now) (told : Tells new) where
  told_old : Tells old
  told_old = sym touches.told ∙ told

  -- what was not pending on another volume is not now
  elsewhere : (v k : ℕ) → v ≢ vol → marks v ≡ false → new.now.unsynced v k ≡ false
  elsewhere v k other unmarked = touches.synced told_old v k (λ at. other (on v k at)) (pends told_old v k unmarked)

  -- it is marked as it was written
  pub marked_as_written : PendsOn (put_at marks vol true) new.now
  marked_as_written v k unmarked = elim (cases_eq v vol) [
    | inl here ↦ absurd (both_ways (put_at marks vol true v) unmarked (put_at-here marks vol v true here))
    | inr other ↦ elsewhere v k other (sym (put_at-other marks vol v true other) ∙ unmarked)
  ]

  -- and not any more once it is synced
  pub unmarked_as_synced : ((k : ℕ) → new.now.unsynced vol k ≡ false) → PendsOn (put_at marks vol false) new.now
  unmarked_as_synced synced v k unmarked = elim (cases_eq v vol) [
    | inl here ↦ ap (λ (w : ℕ). new.now.unsynced w k) here ∙ synced k
    | inr other ↦ elsewhere v k other (sym (put_at-other marks vol v false other) ∙ unmarked)
  ]

-- what is pending on marked volumes alone is so once a volume without anything is not marked
pub cleared_too : (marks : ℕ → Bool) (vol : ℕ) (moment : Moment) → PendsOn marks moment → ((k : ℕ) → moment.unsynced vol k ≡ false) → PendsOn (put_at marks vol false) moment
cleared_too marks vol moment pends synced v k unmarked = elim (cases_eq v vol) [
  | inl here ↦ ap (λ (w : ℕ). moment.unsynced w k) here ∙ synced k
  | inr other ↦ pends v k (sym (put_at-other marks vol v false other) ∙ unmarked)
]

-- a place that can't be pending is synced
pub not_pending : (b : Bool) → (b ≡ true → ⊥) → b ≡ false
not_pending true not = absurd (not refl)
not_pending false not = refl

-- nothing is pending on a volume that the rack has not
pub none_there : (disk : Disk) (vol : ℕ) → PendsWithin disk → ¬ HasVolume disk vol → (k : ℕ) → disk.now.unsynced vol k ≡ false
none_there disk vol within none k = not_pending (disk.now.unsynced vol k) (λ pending. none (within vol k pending).0)

-- each of the eight volumes is marked
marked_there : (v : ℕ) → 1 ≤ v → v ≤ 8 → marks_of (replicate 8 true) v ≡ true
marked_there zero low high = absurd (omega (arith, low))
marked_there (suc at) low high = get_or-replicate 8 at true false (omega (arith, high))

-- and nothing is pending on others
pub all_marked : (disk : Disk) → PendsWithin disk → PendsOn (marks_of (replicate 8 true)) disk.now
all_marked disk within v k unmarked =
    not_pending (disk.now.unsynced v k) (λ pending.
    let there = within v k pending in
    both_ways (marks_of (replicate 8 true) v) unmarked (marked_there v there.0.0 there.1))

-- where none of the eight is marked, nothing is pending
pub none_marked : (marks : ℕ → Bool) (disk : Disk) → PendsWithin disk → PendsOn marks disk.now → AreUnmarkedBelow 9 marks → IsSettled disk.now
none_marked marks disk within pends unmarked v k = elim (cases_lt v 9) [
  | inl below ↦ pends v k (unmarked v below)
  | inr past ↦ not_pending (disk.now.unsynced v k) (λ pending. let few = (within v k pending).1 in omega arith)
]

-- Going on to the next volume.

-- volumes are counted from 1
pub none_below_first : (marked : List Bool) → AreUnmarkedBelow 1 (marks_of marked)
none_below_first marked zero below = refl
none_below_first marked (suc v) below = absurd (omega (arith, below))

-- a volume that is not marked is one more
pub one_more_unmarked : (marks : ℕ → Bool) (vol : ℕ) → marks vol ≡ false → AreUnmarkedBelow vol marks → AreUnmarkedBelow (vol + 1) marks
one_more_unmarked marks vol here so_far v below = elim (cases_eq v vol) [
  | inl same ↦ ap marks same ∙ here
  | inr other ↦ so_far v (omega arith)
]

-- and so is one whose mark is taken away
pub one_more_cleared : (marks now : ℕ → Bool) (vol : ℕ) → now ≡ put_at marks vol false → AreUnmarkedBelow vol marks → AreUnmarkedBelow (vol + 1) now
one_more_cleared marks now vol is so_far v below = elim (cases_eq v vol) [
  | inl same ↦ ap (λ (m : ℕ → Bool). m v) is ∙ put_at-here marks vol v false same
  | inr other ↦ ap (λ (m : ℕ → Bool). m v) is ∙ put_at-other marks vol v false other ∙ so_far v (omega arith)
]

-- How many volumes are marked.

abbrev pub one_if : Bool → ℕ
one_if marked = cond marked 1 0

pub one_more_counted : (marks : ℕ → Bool) (vol : ℕ) → marked_below marks (vol + 1) ≡ marked_below marks vol + one_if (marks vol)
unfolding marked_below
one_more_counted marks vol = ap (marked_below marks) (add-one vol)

pub fewer_counted : (marks : ℕ → Bool) (vol more : ℕ) → marked_below marks vol ≤ marked_below marks (vol + more)
fewer_counted marks vol zero = let is : vol ≡ vol + 0 = omega arith in subst (λ (v : ℕ). marked_below marks vol ≤ marked_below marks v) is (omega arith)
fewer_counted marks vol (suc more) =
    let so_far = fewer_counted marks vol more in
    let is : vol + suc more ≡ vol + more + 1 = omega arith in
    let one = ap (marked_below marks) is ∙ one_more_counted marks (vol + more) in
    omega (arith, so_far, one)

-- At first no volume is marked.

none_at : (n at : ℕ) → get_or (replicate n false) at false ≡ false
none_at zero at = refl
none_at (suc n) zero = refl
none_at (suc n) (suc at) = none_at n at

pub none_marked_first : (v : ℕ) → marks_of (replicate 8 false) v ≡ false
none_marked_first zero = refl
none_marked_first (suc at) = none_at 8 at
