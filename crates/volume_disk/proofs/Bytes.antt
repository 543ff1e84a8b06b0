-- Bytes of a volume, from a place on.
use Rattle.std.proofs.Common.{◌≡◌, ℕ, zero, suc, ◌+◌, ◌<◌, ◌≤◌, List, ◌∷◌, length, get_or, take, drop, refl, sym, ◌∙◌, ap, arith}
use Rattle.std.proofs.lemmas.List.{drop_more}
use Rattle.volume_disk.specs.Image.{Image, bytes_at, bytes_from}

-- a part of a list
pub bytes_from-list : (xs : List ℕ) (at n : ℕ) → at + n ≤ length xs → take n (drop at xs) ≡ bytes_from (λ k. get_or xs k 0) at n
unfolding bytes_from
bytes_from-list xs at zero fits = refl
bytes_from-list xs at (suc n) fits = ap (λ (l : List ℕ). take (suc n) l) (drop_more xs at 0 (omega arith)) ∙ ap (λ (l : List ℕ). get_or xs at 0 ∷ l) (bytes_from-list xs (at + 1) n (omega arith))

pub length-bytes_from : (volume : ℕ → ℕ) (at n : ℕ) → length (bytes_from volume at n) ≡ n
unfolding bytes_from
length-bytes_from volume at zero = refl
length-bytes_from volume at (suc n) = ap suc (length-bytes_from volume (at + 1) n)

pub get_or-bytes_from : (volume : ℕ → ℕ) (at n k d : ℕ) → k < n → get_or (bytes_from volume at n) k d ≡ volume (at + k)
unfolding bytes_from
get_or-bytes_from volume at zero k d lt = absurd (omega arith)
get_or-bytes_from volume at (suc n) zero d lt = ap volume (omega arith)
get_or-bytes_from volume at (suc n) (suc k) d lt = get_or-bytes_from volume (at + 1) n k d (omega arith) ∙ ap volume (omega arith)

-- two volumes that agree there
pub bytes_from-same : (one other : ℕ → ℕ) (at n : ℕ) → ((k : ℕ) → at ≤ k → k < at + n → one k ≡ other k) → bytes_from one at n ≡ bytes_from other at n
unfolding bytes_from
bytes_from-same one other at zero same = refl
bytes_from-same one other at (suc n) same = λ i. same at (omega arith) (omega arith) i ∷ bytes_from-same one other (at + 1) n (λ k le lt. same k (omega arith) (omega arith)) i

-- the first byte of a block that was read
pub first-bytes_at : (image : Image) (vol at : ℕ) (block : List ℕ) → block ≡ bytes_at image vol at 512 → image vol at ≡ get_or block 0 0
first-bytes_at image vol at block read =
    let start : at ≡ at + 0 = omega arith in
    ap (image vol) start ∙ sym (get_or-bytes_from (image vol) at 512 0 0 (omega arith)) ∙ ap (λ (l : List ℕ). get_or l 0 0) (sym read)
