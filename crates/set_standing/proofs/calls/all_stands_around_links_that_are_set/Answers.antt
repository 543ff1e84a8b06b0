use Rattle.set_standing.proofs.CallsAround.{is_linked}
use Rattle.set_standing.proofs.calls.all_stands_around_links_that_are_set.Goals as goal

pub returns : goal.returns
returns c = λ number tag was links d now around same bytes is named most changes together. is_linked number tag d now around same bytes changes was links is named most together
