-- The bytes of a number and the number in some bytes, both ways.
use Rattle.std.proofs.Common.{◌≡◌, ℕ, zero, suc, ◌+◌, ◌^◌, ◌<◌, ◌≤◌, List, [], ◌∷◌, length, get_or, take, drop, refl, sym, ap, ◌∙◌, arith, length-take, inl, inr}
use Rattle.std.proofs.lemmas.Bool.{cases_lt}
use Rattle.std.proofs.lemmas.List.{get_or-take, get_or_past, get_or-drop, append-nil}
use Rattle.std.specs.Int.{byte_at, bytes_low_first}
use Rattle.byteorder.specs.Endian.{little_from, little_number, little_bytes}
use Rattle.byteorder.specs.Numbers.{little_from-cons, little_from-take, little_from-lt, little_number-reads_back, length-bytes_low_first}

abbrev pub IsBytes : List ℕ → Type 0
IsBytes bytes = (i : ℕ) → get_or bytes i 0 < 256

pub IsBytes-drop : (n : ℕ) (bytes : List ℕ) → IsBytes bytes → IsBytes (drop n bytes)
IsBytes-drop n bytes h i = rw get_or-drop (h (n + i))

pub IsBytes-take : (n : ℕ) (bytes : List ℕ) → IsBytes bytes → IsBytes (take n bytes)
IsBytes-take n bytes h i =
    elim (cases_lt i n) [
      | inl lt ↦ rw (get_or-take n bytes i 0 lt) (h i)
      | inr le ↦ rw (get_or_past (take n bytes) i 0 (omega (arith, length-take n bytes))) (omega arith)
    ]

byte_at-lt : (i n : ℕ) → byte_at i n < 256
byte_at-lt zero n = omega arith
byte_at-lt (suc i) n = omega arith

IsBytes-little : (i w n : ℕ) → IsBytes (bytes_low_first i w n)
IsBytes-little i zero n k = omega arith
IsBytes-little i (suc w) n zero = byte_at-lt i n
IsBytes-little i (suc w) n (suc k) = IsBytes-little (suc i) w n k

IsBytes-rest : (x : ℕ) (xs : List ℕ) → IsBytes (x ∷ xs) → IsBytes xs
IsBytes-rest x xs h i = h (suc i)

-- bytes with the same number are the same
little_from-injective : (xs ys : List ℕ) → length xs ≡ length ys → IsBytes xs → IsBytes ys → little_from 0 (length xs) xs ≡ little_from 0 (length xs) ys → xs ≡ ys
little_from-injective [] [] len fx fy e = refl
little_from-injective [] (y ∷ ys) len fx fy e = absurd (omega arith)
little_from-injective (x ∷ xs) [] len fx fy e = absurd (omega arith)
little_from-injective (x ∷ xs) (y ∷ ys) len fx fy e =
    let a = little_from-cons 0 (length xs) x xs in
    let b = little_from-cons 0 (length xs) y ys in
    let x_fits : x < 256 = fx 0 in
    let y_fits : y < 256 = fy 0 in
    let low : x ≡ y = omega (arith, a, b, e) in
    let high : little_from 0 (length xs) xs ≡ little_from 0 (length xs) ys = omega (arith, a, b, e) in
    let rest = little_from-injective xs ys (omega arith) (IsBytes-rest x xs fx) (IsBytes-rest y ys fy) high in
    cc

-- a number that is read from w bytes has these bytes
pub little_bytes-little_number : (w : ℕ) (bytes : List ℕ) → IsBytes bytes → w ≤ length bytes → little_bytes w (little_number w bytes) ≡ take w bytes
little_bytes-little_number w bytes fits long =
    let n = little_number w bytes in
    let len = length-bytes_low_first 0 w n in
    let len' : length (take w bytes) ≡ w = omega (arith, length-take w bytes) in
    let back : little_from 0 w (little_bytes w n) ≡ n = ap (little_from 0 w) (sym (append-nil (little_bytes w n))) ∙ little_number-reads_back w n [] (little_from-lt 0 w bytes fits) in
    let same : little_from 0 w (take w bytes) ≡ n = little_from-take 0 w w bytes (omega arith) in
    little_from-injective (little_bytes w n) (take w bytes) (len ∙ sym len') (IsBytes-little 0 w n) (IsBytes-take w bytes fits)
    (ap (λ (k : ℕ). little_from 0 k (little_bytes w n)) len ∙ back ∙ sym same ∙ ap (λ (k : ℕ). little_from 0 k (take w bytes)) (sym len))

pub little_number-lt : (w : ℕ) (bytes : List ℕ) → IsBytes bytes → little_number w bytes < 256 ^ w
little_number-lt w bytes fits = little_from-lt 0 w bytes fits

pub little_number-take : (w : ℕ) (xs ys : List ℕ) → take w xs ≡ take w ys → little_number w xs ≡ little_number w ys
little_number-take w xs ys e = sym (little_from-take 0 w w xs (omega arith)) ∙ ap (little_from 0 w) e ∙ little_from-take 0 w w ys (omega arith)
