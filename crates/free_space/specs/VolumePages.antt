-- What a bitmap says of a volume: how many pages it has, and which of them are used.
use Rattle.std.specs.Prelude.{◌≡◌, ℕ, ◌+◌, ◌<◌, ◌≤◌, false, Option, Some, None, refl}
use Rattle.std.specs.Ordering.{nat_cmp}
use Rattle.std.specs.FinSet.{FinSet, code, contains}
use Rattle.std.specs.Coded.{Coded, code_by, coded×, coded_ℕ}

-- a volume's pages, numbered from 0, and the used ones among them
pub record VolumePages : Type 0 where
  pub pages : ℕ
  pub used : FinSet nat_cmp

abbrev pub volume_pages_code : Coded VolumePages
volume_pages_code =
    code_by (ℕ × FinSet nat_cmp) (coded× coded_ℕ (code coded_ℕ)) (λ m. (m.pages, m.used))
    (λ p. record { pages = p.0; used = p.1 })
    (λ _. refl)

-- that many pages in a row from page p on, all of them the volume's and none used
pub record IsFreeRun (m : VolumePages) (p count : ℕ) : Type 0 where
  pub within : p + count ≤ m.pages
  pub free : (q : ℕ) → p ≤ q → q < p + count → contains m.used q ≡ false

-- the first such run that begins at page `from` or later, if there is one
abbrev pub IsFirstRun : VolumePages → ℕ → ℕ → Option ℕ → Type 0
IsFirstRun m from count None = (p : ℕ) → from ≤ p → ¬ IsFreeRun m p count
IsFirstRun m from count (Some p) =
    (from ≤ p) × IsFreeRun m p count × ((q : ℕ) → from ≤ q → q < p → ¬ IsFreeRun m q count)

-- a run of that many free pages is there, and none of more
pub record IsLongestRun (m : VolumePages) (count : ℕ) : Type 0 where
  pub there : (p : ℕ) × IsFreeRun m p count
  pub most : (p more : ℕ) → count < more → ¬ IsFreeRun m p more
