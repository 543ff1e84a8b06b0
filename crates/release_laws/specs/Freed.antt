-- A domain in which no page waits any more.
use Rattle.standing_laws.specs.free_space.Spaces.{change_volumes}
use Rattle.standing_laws.specs.free_space.VolumeSpace.{with_none_waiting}
use Rattle.standing_laws.specs.domain_standing.Domain.{DomainNow}

-- each page that waits is free, and that is kept
abbrev pub freed : DomainNow → DomainNow
freed d = record d { space = change_volumes with_none_waiting d.space }
