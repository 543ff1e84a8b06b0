use Rattle.tag_dirs.proofs.Reading.{same_directory}
use Rattle.tag_dirs.proofs.laws.one_directory.Goals as goal

pub returns : goal.returns
returns c = λ pages first a b of_a of_b. same_directory pages first a b of_a of_b
