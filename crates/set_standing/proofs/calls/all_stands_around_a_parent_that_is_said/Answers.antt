use Rattle.set_standing.proofs.CallsAround.{is_put_in}
use Rattle.set_standing.proofs.calls.all_stands_around_a_parent_that_is_said.Goals as goal

pub returns : goal.returns
returns c = λ number tag parent d now around same bytes directory changes together. is_put_in number tag d now around same bytes changes parent directory together
