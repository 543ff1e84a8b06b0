-- A domain that was just made, and one that is read, are as rules ask beside.
use Rattle.domain_memory.specs.fileset_model.Filesets.{FilesetMap}
use Rattle.domain_memory.specs.domain_layout.NewDomain.{IsNew}
use Rattle.domain_memory.proofs.OfDomainLayout.NewDomain.{no_fault}
use Rattle.domain_memory.specs.domain_standing.Domain.{DomainNow}
use Rattle.domain_memory.specs.domain_standing.Standing.{StandsDomain}
use Rattle.no_faults.specs.Attached.{IsReadFrom}
use Rattle.domain_memory.specs.standing_laws.Sound.{StandsSound}
use Rattle.no_faults.proofs.Faultless.{faultless}

pub sound_new : (d : DomainNow) (all : FilesetMap) (stands : StandsDomain d all) → IsNew d.pages d.frame → StandsSound d stands.files stands.indexes
sound_new d all stands new = faultless d all stands (no_fault d.pages d.frame new)

pub sound_read : (d : DomainNow) (all : FilesetMap) (stands : StandsDomain d all) → IsReadFrom d → StandsSound d stands.files stands.indexes
sound_read d all stands read = faultless d all stands read.no_fault
