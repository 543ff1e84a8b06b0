-- Anchors of one domain, one written after the other.
use Rattle.std.specs.Prelude.{◌≡◌}
use Rattle.attached_domain.specs.log_recovery.Readable.{restarted}
use Rattle.attached_domain.specs.domain_layout.Reached.{Frame}
use Rattle.attached_domain.specs.domain_standing.Domain.{DomainNow}

-- the other frame has the same version, members and table, and its log on the same pages: its
-- anchor may have another number, stand in the other slot, and have its log start at another group
abbrev pub SameDomain : Frame → Frame → Type 0
SameDomain one other = other ≡ record one {
  anchor = restarted one.anchor other.anchor.number other.anchor.slot other.anchor.start
      other.anchor.group;
}

-- a domain with another anchor
abbrev pub with_frame : Frame → DomainNow → DomainNow
with_frame frame d = record d { frame = frame }
