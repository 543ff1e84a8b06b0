use Rattle.stored_set.proofs.Sound.{sound_at}
use Rattle.stored_set.proofs.stored_laws.sets_are_sound.Goals as goal

pub returns : goal.returns
returns c = λ fileset places space cells pages files whole was tag.
    sound_at fileset places space cells pages files whole was tag
