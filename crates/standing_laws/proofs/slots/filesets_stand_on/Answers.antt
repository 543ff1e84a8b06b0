use Rattle.standing_laws.proofs.FilesetsStand.{slots_stand}
use Rattle.standing_laws.proofs.slots.filesets_stand_on.Goals as goal

pub returns : goal.returns
returns c = λ number tag d now chains chains_now files files_now indexes all below leads slots agree shape fileset own.
    slots_stand number tag d now chains chains_now files files_now indexes below leads all slots agree shape fileset own
