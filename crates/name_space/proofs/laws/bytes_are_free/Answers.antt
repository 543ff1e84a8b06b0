use Rattle.name_space.proofs.Likeness.{bytes_free_lem}
use Rattle.name_space.proofs.laws.bytes_are_free.Goals as goal

pub returns : goal.returns
returns c = bytes_free_lem
