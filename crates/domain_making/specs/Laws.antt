-- What holds of making, whatever calls are made.
use Rattle.std.specs.Prelude.{◌≢◌, ℕ}
use Rattle.domain_layout.specs.volume_disk.Disk.{Disk}
use Rattle.domain_layout.specs.disk_label.Anchor.{Counts, volume_of}

-- what a read gives has no anchor that counts on a volume but the first
abbrev pub HoldsNoOtherAnchor : Disk → Type 0
HoldsNoOtherAnchor disk =
    (place : ℕ) → volume_of place ≢ 1 → ¬ Counts disk.sizes disk.now.contents place
