-- The anchor that counts, with its version, as the code has them.
use Rattle.domain_layout.specs.Reached.{Frame}
use Rattle.page_ways.specs.declared.frame.DomainFrame.{DomainFrame}

-- the anchor that counts, with its version, as the definitions have it
abbrev pub frame_in : DomainFrame → Frame
frame_in domain = record { anchor = domain.anchor; version = domain.version }
