-- The bit that is tested.
use Rattle.std.proofs.Common.{◌≡◌, ◌∙◌, ℕ, ◌/◌, ◌%◌, ◌^◌, List, get_or, nat_eq, bit_and, ap}
use Rattle.std.proofs.lemmas.Nat.Bits.{shr_and_one}
use Rattle.std.specs.Int.{bit_at}
use Rattle.free_space.specs.Bits.{is_set}

-- the bit that the code tests
pub tested : (bytes : List ℕ) (p byte : ℕ) → byte ≡ get_or bytes (p / 8) 0 → nat_eq (bit_and (byte / 2 ^ (p % 8)) 1) 1 ≡ is_set bytes p
unfolding is_set
tested bytes p byte read = ap (λ n. nat_eq n 1) (shr_and_one byte (p % 8)) ∙ ap (λ b. nat_eq (bit_at b (p % 8)) 1) read
