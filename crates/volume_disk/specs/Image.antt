-- What the volumes of a rack hold, as bytes by volume and place. Volumes are numbered from 1, and a
-- place is a byte's number in its volume.
use Rattle.std.specs.Prelude.{◌≡◌, ℕ, zero, suc, ◌+◌, ◌*◌, ◌<◌, ◌≤◌, List, [], ◌∷◌, length, slice_index}

-- the byte at each place of each volume
abbrev pub Image : Type 0
Image = ℕ → ℕ → ℕ

-- the n bytes from this place on
unfoldable pub bytes_from : (ℕ → ℕ) → ℕ → ℕ → List ℕ
bytes_from volume at zero = []
bytes_from volume at (suc n) = volume at ∷ bytes_from volume (at + 1) n

-- the n bytes of a volume from this place on
abbrev pub bytes_at : Image → ℕ → ℕ → ℕ → List ℕ
bytes_at image vol at n = bytes_from (image vol) at n

-- the bytes of a page
abbrev pub page_at : Image → ℕ → ℕ → List ℕ
page_at image vol page = bytes_at image vol (8192 * page) 8192

-- Places of volumes.

-- some places, by volume and place
abbrev pub Places : Type 1
Places = ℕ → ℕ → Type 0

-- none of them
abbrev pub NoPlace : Places
NoPlace v k = ⊥

-- the n places of a volume from `at` on
abbrev pub IsIn : ℕ → ℕ → ℕ → Places
IsIn vol at n v k = (v ≡ vol) × (at ≤ k) × (k < at + n)

-- two images agree outside of these places
abbrev pub SameOutside : Places → Image → Image → Type 0
SameOutside places old new = (v k : ℕ) → ¬ places v k → new v k ≡ old v k

-- two images agree in these places
abbrev pub SameIn : Places → Image → Image → Type 0
SameIn places old new = (v k : ℕ) → places v k → new v k ≡ old v k

-- an image has these bytes from a place on
abbrev pub HasBytes : ℕ → ℕ → List ℕ → Image → Type 0
HasBytes vol at bytes image = (k : ℕ) → k < length bytes → image vol (at + k) ≡ slice_index bytes k

-- each place has a byte
abbrev pub AreBytes : Image → Type 0
AreBytes image = (v k : ℕ) → image v k < 256
