-- Bytes as the runs of equal ones, as a history writes them.
use Rattle.std.specs.Prelude.{◌≡◌, ◌≢◌, ℕ, ◌+◌, ◌/◌, ◌%◌, ◌<◌, ◌==◌, nat_lt, false, if◌then◌else◌, List, [], ◌∷◌, ◌++◌, map, codes, decimal, replicate}
use Rattle.std.specs.List.{flat_map, join_with_byte}
use Rattle.std.specs.Fmt.{digit_glyph}

-- a byte that stands `count` times in a row
pub record Run : Type 0 where
  pub byte : ℕ
  pub count : ℕ

-- the runs with one byte more in front: in the first run if it has that byte, else in one of its
-- own
abbrev pub with_byte : ℕ → List Run → List Run
with_byte b [] = record { byte = b; count = 1 } ∷ []
with_byte b (run ∷ runs) =
    if b == run.byte then record { byte = run.byte; count = run.count + 1 } ∷ runs
    else record { byte = b; count = 1 } ∷ run ∷ runs

-- the runs of some bytes
abbrev pub runs_of : List ℕ → List Run
runs_of [] = []
runs_of (b ∷ bytes) = with_byte b (runs_of bytes)

-- the bytes that a run stands for
abbrev pub bytes_of_run : Run → List ℕ
bytes_of_run run = replicate run.count run.byte

-- no run can take in a byte of the next one
abbrev pub AreMaximal : List Run → Type 0
AreMaximal [] = Unit {0}
AreMaximal (run ∷ []) = 0 < run.count
AreMaximal (run ∷ next ∷ runs) = (0 < run.count) × (run.byte ≢ next.byte) × AreMaximal (next ∷ runs)

-- bytes are cut into maximal runs in one way, which is `runs_of`
abbrev pub IsRunLengthForm : List ℕ → List Run → Type 0
IsRunLengthForm bytes runs = AreMaximal runs × (flat_map bytes_of_run runs ≡ bytes)

-- two lower-case hexadecimal digits
unfoldable pub hexadecimal : ℕ → List ℕ
hexadecimal b = digit_glyph false (b / 16) ∷ digit_glyph false (b % 16) ∷ []

-- a byte, and how often it stands if that is more than once
unfoldable pub run_text : Run → List ℕ
run_text run =
    hexadecimal run.byte ++ (if nat_lt 1 run.count then codes "x" ++ decimal run.count else [])

-- the runs, with a dot between two of them; no bytes are written `-`
unfoldable pub bytes_text : List ℕ → List ℕ
bytes_text [] = codes "-"
bytes_text (b ∷ bytes) = join_with_byte 46 (map run_text (runs_of (b ∷ bytes)))
