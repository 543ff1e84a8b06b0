-- What a rack with a fuse stands for.
use Rattle.std.specs.Prelude.{◌||◌, ℕ, nat_lt}
use Rattle.volume_disk.specs.Disk.{Disk}
use Rattle.memory_disk.specs.Memory.{memory_disk}
use Rattle.memory_disk.specs.declared.fuse.FuseRack.{FuseRack}
use Rattle.memory_disk.specs.declared.memory.MemoryRack.{MemoryRack}

-- the same disk, but each call after this one fails
abbrev pub fused : Disk → ℕ → Disk
fused disk last = record disk { fails = λ n. disk.fails n || nat_lt last n }

-- the rack in it
abbrev pub inner_of : FuseRack → MemoryRack
inner_of fuse = fuse.rack

-- the last call that may pass
abbrev pub last_of : FuseRack → ℕ
last_of fuse = fuse.last

abbrev pub fuse_disk : FuseRack → Disk
fuse_disk fuse = fused (memory_disk fuse.rack) fuse.last
