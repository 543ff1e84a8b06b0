-- The fields of each kind of record: how wide each is, in bytes.
use Rattle.std.specs.Prelude.{ℕ, zero, suc, ◌≤◌, ◌<◌, List, [], ◌∷◌, ◌++◌, sum, length, take, get_or}

-- a list n times over
abbrev pub repeated : ℕ → List ℕ → List ℕ
repeated zero ws = []
repeated (suc n) ws = ws ++ repeated n ws

-- kind, a zero and the length, and then the kind's own fields
abbrev pub with_head : List ℕ → List ℕ
with_head ws = 1 ∷ 1 ∷ 2 ∷ ws

-- page, count, volume and first page
abbrev pub extent_widths : List ℕ
extent_widths = 4 ∷ 4 ∷ 4 ∷ 4 ∷ []

-- the fields of a dense extent: page, count, volume, two zeros and first page
abbrev pub dense_widths : List ℕ
dense_widths = 2 ∷ 2 ∷ 1 ∷ 1 ∷ 2 ∷ 4 ∷ []

-- page and count
abbrev pub hole_widths : List ℕ
hole_widths = 4 ∷ 4 ∷ []

-- a cell address: a zero, volume, cell and page
abbrev pub cell_widths : List ℕ
cell_widths = 2 ∷ 1 ∷ 1 ∷ 4 ∷ []

-- The widths of each kind, by its number. There is no kind 0: of its fields only the first is
-- there, the kind itself.
abbrev pub layouts : List (List ℕ)
layouts =
    (1 ∷ [])
    ∷ with_head (4 ∷ 4 ∷ 4 ∷ 4 ∷ 8 ∷ 4 ∷ 4 ∷ 8 ∷ 8 ∷ [])
    ∷ with_head (cell_widths ++ 4 ∷ 4 ∷ [])
    ∷ with_head (repeated 16 extent_widths)
    ∷ with_head (repeated 4 extent_widths)
    ∷ with_head (repeated 16 hole_widths)
    ∷ with_head (4 ∷ 4 ∷ [])
    ∷ with_head (4 ∷ 4 ∷ 8 ∷ 8 ∷ [])
    ∷ with_head (4 ∷ 4 ∷ 8 ∷ 8 ∷ [])
    ∷ with_head (4 ∷ 4 ∷ 4 ∷ 4 ∷ [])
    ∷ with_head (4 ∷ 2 ∷ 2 ∷ [])
    ∷ with_head (1 ∷ 1 ∷ 2 ∷ repeated 8 (1 ∷ []))
    ∷ with_head (4 ∷ 4 ∷ 4 ∷ [])
    ∷ with_head (repeated 22 dense_widths)
    ∷ with_head (repeated 4 dense_widths)
    ∷ []

-- the widths of a kind's fields; for a number that is no kind, the width of that number
abbrev pub widths : ℕ → List ℕ
widths kind = get_or layouts kind (1 ∷ [])

-- where the field of that place starts
abbrev pub start_of : ℕ → ℕ → ℕ
start_of kind field = sum (take field (widths kind))

-- how long a record of a kind is
abbrev pub size_of : ℕ → ℕ
size_of kind = sum (widths kind)

-- the numbers that are kinds
abbrev pub IsKind : ℕ → Type 0
IsKind kind = (1 ≤ kind) × (kind < length layouts)
