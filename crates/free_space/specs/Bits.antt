-- A bitmap's bytes.
use Rattle.std.specs.Prelude.{◌≡◌, ℕ, zero, suc, ◌+◌, ◌*◌, ◌/◌, ◌%◌, ◌<◌, ◌≤◌, Bool, true, if◌then◌else◌, ◌||◌, ◌==◌, nat_le, List, length, slice_index}
use Rattle.std.specs.Int.{bit_at}
use Rattle.std.specs.Ordering.{nat_cmp}
use Rattle.std.specs.FinSet.{FinSet, empty, insert, contains, len}
use Rattle.sorted_sets.specs.domain_base.Limits.{page_bytes}
use Rattle.sorted_sets.specs.domain_base.Version.{bitmap_pages}
use Rattle.sorted_sets.specs.domain_base.declared.version.Version.TheVariants.{Four}
use Rattle.free_space.specs.VolumePages.{VolumePages}

-- whether bit p mod 8 of byte p / 8 is 1; bit 0 is the lowest
unfoldable pub is_set : List ℕ → ℕ → Bool
is_set bytes p = bit_at (slice_index bytes (p / 8)) (p % 8) == 1

-- the pages below n whose bit is 1
unfoldable pub used_below : List ℕ → ℕ → FinSet nat_cmp
used_below bytes zero = empty
used_below bytes (suc n) = if is_set bytes n then insert (used_below bytes n) n
    else used_below bytes n

-- how many bytes a bitmap of `pages` pages has: whole pages of 8,192 bytes, each for 65,536 pages
abbrev pub bitmap_bytes : ℕ → ℕ
bitmap_bytes pages = page_bytes * bitmap_pages Four pages

-- these bytes are the map's: a bit is 1 if and only if its page is used or lies past the last one
pub record ShowsMap (m : VolumePages) (bytes : List ℕ) : Type 0 where
  pub len : length bytes ≡ bitmap_bytes m.pages
  pub bits : (p : ℕ) → p < 8 * length bytes
      → is_set bytes p ≡ (nat_le m.pages p || contains m.used p)

-- what a bitmap keeps of its bytes, its pages and its count of free ones
pub record IsKept (bytes : List ℕ) (pages free : ℕ) : Type 0 where
  pub size : length bytes ≡ bitmap_bytes pages
  pub past : (p : ℕ) → pages ≤ p → p < 8 * length bytes → is_set bytes p ≡ true
  pub count : free + len (used_below bytes pages) ≡ pages
