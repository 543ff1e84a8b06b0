-- What a page's bytes are after a call.
use Rattle.std.specs.Prelude.{◌≡◌, ℕ, ◌+◌, ◌<◌, List, ◌++◌, length, take, drop, replicate, slice_index}
use Rattle.std.proofs.lemmas.List.{length-replicate, get_or-replicate}

-- as many zeros
unfoldable pub zero_bytes : ℕ → List ℕ
zero_bytes n = replicate n 0

-- the list with these in the places from `at` on
abbrev pub overwritten : List ℕ → ℕ → List ℕ → List ℕ
overwritten page at bytes = take at page ++ bytes ++ drop (at + length bytes) page

pub length-zero_bytes : (n : ℕ) → length (zero_bytes n) ≡ n
unfolding zero_bytes
length-zero_bytes n = length-replicate n 0

pub slice_index-zero_bytes : (n i : ℕ) → i < n → slice_index (zero_bytes n) i ≡ 0
unfolding zero_bytes
slice_index-zero_bytes n i within = get_or-replicate n i 0 0 within
