-- What the calls of a log ask for.
use Rattle.std.specs.Prelude.{◌≡◌, ◌+◌, ◌^◌, ◌<◌, ◌≤◌, ℕ, List, [], length}
use Rattle.log_recovery.specs.domain_base.Limits.{max_volume_pages_4}
use Rattle.log_recovery.specs.volume_disk.Disk.{Disk, volume_pages}
use Rattle.log_recovery.specs.disk_label.Anchor.{IsWhole}
use Rattle.log_recovery.specs.disk_label.declared.anchor.Anchor.{Anchor}
use Rattle.log_recovery.specs.log_ring.declared.image.PageImage.{PageImage}
use Rattle.log_recovery.specs.log_ring.Homes.{AreLoggable, AreOutside, HasMembers, member_of}
use Rattle.log_recovery.specs.log_ring.Ring.{IsRing}
use Rattle.file_pages.specs.meta_log.Log.{Log, next_number}

-- a change may be appended
pub record MayAppend (log : Log) (change : List PageImage) : Type 0 where
  pub some : 0 < length change
  pub loggable : AreLoggable log.anchor change
  pub number : next_number log + 1 < 2 ^ 63

-- a volume is no member, or one of a rack with its pages
abbrev pub HasMember : List ℕ → Anchor → ℕ → Type 0
HasMember sizes anchor vol =
    1 ≤ (member_of anchor vol).state → (member_of anchor vol).state ≤ 2
    → (vol ≤ length sizes)
    × ((member_of anchor vol).pages ≤ volume_pages sizes vol)
    × ((member_of anchor vol).pages ≤ max_volume_pages_4)

-- a log may be brought home for an anchor on its ring
pub record MayBringHome (disk : Disk) (log : Log) (anchor : Anchor) : Type 0 where
  pub forced : log.pending ≡ []
  pub members : HasMembers disk.sizes log.anchor
  pub outside : AreOutside anchor log.logged
  pub ring : IsRing disk.sizes anchor
  pub whole : IsWhole anchor
  pub number : log.anchor.number + 1 < 2 ^ 63
