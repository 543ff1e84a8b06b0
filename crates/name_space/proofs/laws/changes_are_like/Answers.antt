use Rattle.name_space.proofs.Likeness.{changes_like_lem}
use Rattle.name_space.proofs.laws.changes_are_like.Goals as goal

pub returns : goal.returns
returns c = changes_like_lem
