-- Bits of a page of a bitmap, by which pages are owned.
use Rattle.std.specs.Prelude.{◌≡◌, ◌⊎◌, ◌↔◌, ◌+◌, ◌<◌, ◌≤◌, ℕ, List, true}
use Rattle.free_space.specs.Bits.{is_set}

-- a page of a volume with `pages` pages is owned, or is not one of its pages
abbrev pub ShouldBeSet : (ℕ → Type 0) → ℕ → ℕ → Type 0
ShouldBeSet Owned pages number = Owned number ⊎ (pages ≤ number)

-- a bit is wrong: it is set and should not be, or is not set and should be
abbrev pub IsWrongBit : List ℕ → (ℕ → Type 0) → ℕ → ℕ → ℕ → Type 0
IsWrongBit page Owned pages first bit =
    ¬ ((is_set page bit ≡ true) ↔ ShouldBeSet Owned pages (first + bit))

-- some bit of a page is wrong
abbrev pub IsWrongPage : List ℕ → (ℕ → Type 0) → ℕ → ℕ → Type 0
IsWrongPage page Owned pages first =
    (bit : ℕ) × (bit < 65536) × IsWrongBit page Owned pages first bit
