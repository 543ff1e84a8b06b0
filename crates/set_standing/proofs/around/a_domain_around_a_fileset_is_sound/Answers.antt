use Rattle.set_standing.proofs.OwnIndexes.{around_sound}
use Rattle.set_standing.proofs.around.a_domain_around_a_fileset_is_sound.Goals as goal

pub returns : goal.returns
returns c = around_sound
