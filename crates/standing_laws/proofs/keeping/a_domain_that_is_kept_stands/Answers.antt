use Rattle.domain_standing.specs.free_space.Spaces.{change_volumes}
use Rattle.domain_standing.specs.free_space.VolumeSpace.{keeping}
use Rattle.domain_standing.proofs.OfFreeCells.MarkVolumes.{volume_changed}
use Rattle.standing_laws.proofs.MemoryKept.{all_kept_stands}
use Rattle.standing_laws.proofs.keeping.a_domain_that_is_kept_stands.Goals as goal

pub returns : goal.returns
returns c = λ d all cells stands holds.
    all_kept_stands d (change_volumes keeping d.space) cells (volume_changed keeping d.space) holds.tables holds.marks holds.cells all stands
