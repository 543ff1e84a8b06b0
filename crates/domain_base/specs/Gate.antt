-- Gates: blocks whose first byte says whether what follows them counts.
use Rattle.std.specs.Prelude.{◌≡◌, ℕ, List, replicate, slice_index}
use Rattle.domain_base.specs.Limits.{block_bytes, open_gate}

-- a gate that begins with these bytes is open
abbrev pub IsOpen : List ℕ → Type 0
IsOpen gate = slice_index gate 0 ≡ open_gate

-- an open gate as it is written
unfoldable pub opened : List ℕ
opened = replicate block_bytes open_gate

-- a closed one
unfoldable pub closed : List ℕ
closed = replicate block_bytes 0
