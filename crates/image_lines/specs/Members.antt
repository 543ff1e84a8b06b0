-- Which volumes of an anchor a rack has.
use Rattle.std.specs.Prelude.{◌≤◌, ℕ, List, length}
use Rattle.page_faults.specs.domain_base.Limits.{max_volume_pages_4}
use Rattle.page_faults.specs.disk_label.declared.anchor.Anchor.{Anchor}
use Rattle.page_faults.specs.log_ring.Homes.{member_of}
use Rattle.page_faults.specs.volume_disk.Disk.{volume_pages}

-- a volume is no member, or one of a rack with its pages
abbrev pub HasMember : List ℕ → Anchor → ℕ → Type 0
HasMember sizes anchor vol =
    1 ≤ (member_of anchor vol).state → (member_of anchor vol).state ≤ 2
    → (vol ≤ length sizes)
    × ((member_of anchor vol).pages ≤ volume_pages sizes vol)
    × ((member_of anchor vol).pages ≤ max_volume_pages_4)
