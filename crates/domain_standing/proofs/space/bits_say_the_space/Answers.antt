use Rattle.domain_standing.proofs.Marked.{marked_space}
use Rattle.domain_standing.proofs.space.bits_say_the_space.Goals as goal

pub returns : goal.returns
returns c pages layout space laid none few there marked = marked_space pages layout laid none few there space marked
