-- Gates on volumes.
use Rattle.std.specs.Prelude.{◌≡◌, ℕ}
use Rattle.domain_base.specs.Limits.{open_gate}
use Rattle.volume_disk.specs.Image.{Image}

-- a volume has an open gate at this place: its first byte is that of one
abbrev pub IsOpenAt : Image → ℕ → ℕ → Type 0
IsOpenAt image vol at = image vol at ≡ open_gate
