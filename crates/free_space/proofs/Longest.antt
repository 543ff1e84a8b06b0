-- The search for the longest run of free pages.
use Rattle.std.proofs.Common.{◌≡◌, ℕ, ◌-◌, ◌<◌, ◌≤◌, Option, Some, None, arith, is_some, false}
use Rattle.std.proofs.lemmas.Bool.{true≢false}
use Rattle.free_space.specs.VolumePages.{VolumePages, IsFreeRun, IsFirstRun, IsLongestRun}

-- the longest run has at least `short` pages, and at most `most`
pub record IsBetween (m : VolumePages) (short most : ℕ) : Type 0 where
  pub order : short ≤ most
  pub within : most ≤ m.pages
  pub there : (p : ℕ) × IsFreeRun m p short
  pub none : (p more : ℕ) → most < more → ¬ IsFreeRun m p more

pub between_all : (m : VolumePages) → IsBetween m 0 m.pages
between_all m = record {
  order = omega arith;
  within = omega arith;
  there = (0, record { within = omega arith; free = λ q after before. absurd (omega arith) });
  none = λ p more past run. absurd (omega (arith, run.within));
}

shorter : (m : VolumePages) (p count more : ℕ) → count ≤ more → IsFreeRun m p more → IsFreeRun m p count
shorter m p count more fewer run = record { within = omega (arith, run.within); free = λ q after before. run.free q after (omega arith) }

pub between_found : (m : VolumePages) (short most middle p : ℕ) → IsBetween m short most → middle ≤ most → IsFirstRun m 0 middle (Some p) → IsBetween m middle most
between_found m short most middle p between fewer first =
    record { order = fewer; within = between.within; there = (p, first.1); none = between.none }

pub between_none : (m : VolumePages) (short most middle : ℕ) → IsBetween m short most → short < middle → middle ≤ most → IsFirstRun m 0 middle None → IsBetween m short (middle - 1)
between_none m short most middle between longer fewer none = record {
  order = omega arith;
  within = omega (arith, between.within);
  there = between.there;
  none = λ p more past run. none p (omega arith) (shorter m p middle more (omega arith) run);
}

pub longest : (m : VolumePages) (short most : ℕ) → IsBetween m short most → most ≤ short → IsLongestRun m short
longest m short most between same = record { there = between.there; most = λ p more past run. between.none p more (omega (arith, between.order)) run }

pub none_of : (m : VolumePages) (count : ℕ) (r : Option ℕ) → IsFirstRun m 0 count r → is_some r ≡ false → IsFirstRun m 0 count None
none_of m count None first none = first
none_of m count (Some p) first none = absurd (true≢false none)
