-- A domain that stands with some files.
use Rattle.standing_laws.specs.release_list.Standing.{Files}
use Rattle.standing_laws.specs.domain_standing.Chains.{IndexesAt}
use Rattle.standing_laws.specs.domain_standing.Domain.{DomainNow}
use Rattle.standing_laws.specs.Leads.{StandsBelow}

-- with some files and indexes all of it but its filesets stands
abbrev pub StandsWithSome : DomainNow → Type 0
StandsWithSome d = (files : Files) × (indexes : IndexesAt) × StandsBelow d files indexes
