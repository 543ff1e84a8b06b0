use Rattle.release_steps.proofs.Linked.{listed_in_order}
use Rattle.release_steps.proofs.adding.a_directory_is_listed_in_order.Goals as goal

pub returns : goal.returns
returns c = listed_in_order
