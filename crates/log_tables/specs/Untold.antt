-- A rack that tells nothing of what it holds.
use Rattle.std.specs.Prelude.{◌^◌, ◌-◌, ◌*◌, ℕ, false, min, map}
use Rattle.log_recovery.specs.volume_disk.Disk.{Disk}
use Rattle.memory_disk.specs.Memory.{memory_disk}
use Rattle.log_tables.specs.declared.counting.CountRack.{CountRack}

-- the pages of a volume of which each page in memory holds so many
abbrev pub unfolded : ℕ → ℕ → ℕ
unfolded fold pages = min (pages * fold) (2 ^ 32 - 1)

-- the same disk, untold, with volumes of these pages
abbrev pub untold : ℕ → Disk → Disk
untold fold disk = record disk { told = false; sizes = map (unfolded fold) disk.sizes }

abbrev pub untold_disk : CountRack → Disk
untold_disk counted = untold counted.fold (memory_disk counted.rack)
