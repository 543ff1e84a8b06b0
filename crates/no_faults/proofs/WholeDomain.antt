-- A domain that is as rules ask beside that it stands has no fault.
use Rattle.domain_memory.specs.fileset_model.Filesets.{FilesetMap}
use Rattle.domain_memory.specs.domain_layout.Faults.{HasNoFault}
use Rattle.domain_memory.specs.domain_standing.Domain.{DomainNow}
use Rattle.domain_memory.specs.domain_standing.Standing.{HaveParents, IsMarkedBut, StandsDomain}
use Rattle.domain_memory.specs.standing_laws.Sound.{IsSound}
use Rattle.no_faults.proofs.NoFault.{no_fault}

pub sound_faultless : (d : DomainNow) (all : FilesetMap) → StandsDomain d all → IsSound d → HaveParents d → IsMarkedBut d → HasNoFault d.pages d.frame
sound_faultless d all stands is parents marked =
    let so : StandsDomain d all = record stands { files = is.files; indexes = is.indexes; tables = is.below.tables; chains = is.below.chains; owned = is.below.owned; rest = is.below.rest } in
    no_fault d all so is.sound parents marked
