-- What each call makes of the moment before it, as a function.
use Rattle.std.specs.Prelude.{◌≡◌, ◌&&◌, ◌||◌, ℕ, ◌+◌, ◌-◌, nat_lt, nat_le, if◌then◌else◌, Bool, true, false, List, length, slice_index}
use Rattle.volume_disk.specs.Disk.{Moment, put_at}
use Rattle.volume_disk.specs.Image.{IsIn}

-- volumes of zeros, all of them synced
abbrev pub blank : Moment
blank = record { contents = λ _ _. 0; unsynced = λ _ _. false }

-- these bytes from `at` on, over what was there
abbrev pub overlaid : (ℕ → ℕ) → ℕ → List ℕ → ℕ → ℕ
overlaid each at bytes k =
    if nat_le at k && nat_lt k (at + length bytes) then slice_index bytes (k - at) else each k

-- n marks from `at` on, over those that were there
abbrev pub marked : (ℕ → Bool) → ℕ → ℕ → ℕ → Bool
marked each at n k = (nat_le at k && nat_lt k (at + n)) || each k

-- n bytes from `at` on are not synced any more
unfoldable pub torn : Moment → ℕ → ℕ → ℕ → Moment
torn moment vol at n =
    record moment { unsynced = put_at moment.unsynced vol (marked (moment.unsynced vol) at n) }

-- these bytes are written from `at` on
unfoldable pub written : Moment → ℕ → ℕ → List ℕ → Moment
written moment vol at bytes = record {
  contents = put_at moment.contents vol (overlaid (moment.contents vol) at bytes);
  unsynced = put_at moment.unsynced vol (marked (moment.unsynced vol) at (length bytes));
}

-- a volume is synced
unfoldable pub synced : Moment → ℕ → Moment
synced moment vol = record moment { unsynced = put_at moment.unsynced vol (λ _. false) }

-- a stop may leave any byte at each place of n bytes from `at` on
abbrev pub IsPending : Moment → ℕ → ℕ → ℕ → Type 0
IsPending moment vol at n = (v k : ℕ) → IsIn vol at n v k → moment.unsynced v k ≡ true
