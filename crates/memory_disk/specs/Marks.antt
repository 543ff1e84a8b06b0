-- Marks of blocks, as bits.
use Rattle.std.specs.Prelude.{◌==◌, ◌/◌, ◌%◌, ℕ, Bool, List, slice_index}
use Rattle.std.specs.Int.{bit_at}

-- whether a block is marked: bit q mod 16 of number q / 16; bit 0 is the lowest
unfoldable pub is_marked : List ℕ → ℕ → Bool
is_marked words q = bit_at (slice_index words (q / 16)) (q % 16) == 1
