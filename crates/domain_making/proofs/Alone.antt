-- Where no volume but the first has an anchor that counts.
use Rattle.std.proofs.Common.{◌≡◌, ℕ, ◌+◌, ◌%◌, List, length, sym, ap, arith}
use Rattle.domain_layout.specs.volume_disk.Disk.{Disk, IsSettled}
use Rattle.domain_layout.proofs.OfVolumeDisk.Bytes.{bytes_from-same}
use Rattle.domain_layout.specs.disk_label.Anchor.{gate_of, volume_of}
use Rattle.domain_layout.specs.disk_label.Body.{anchor_from}
use Rattle.domain_layout.proofs.OfDiskLabel.Slots.{Counts-same, pages_there}
use Rattle.domain_making.specs.Laws.{HoldsNoOtherAnchor}
use Rattle.domain_making.specs.Making.{HasNoOtherAnchor}

pub alone : (disk : Disk) → length disk.sizes ≡ 1 → HasNoOtherAnchor disk
alone disk one image left place other counts =
    let there = pages_there disk.sizes (volume_of place) counts.there in
    other (omega (arith, there.0, there.1, one))

pub settled : (disk : Disk) → IsSettled disk.now → HoldsNoOtherAnchor disk → HasNoOtherAnchor disk
settled disk synced none image left place other counts =
    none place other
    (Counts-same disk.sizes image disk.now.contents place (sym (left.synced (volume_of place) (gate_of place) (synced (volume_of place) (gate_of place))))
    (ap (λ (l : List ℕ). anchor_from l (place % 2))
    (bytes_from-same (disk.now.contents (volume_of place)) (image (volume_of place)) (gate_of place + 512) 512 (λ k low high. sym (left.synced (volume_of place) k (synced (volume_of place) k))))) counts)
