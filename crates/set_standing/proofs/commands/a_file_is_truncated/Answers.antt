use Rattle.set_standing.proofs.Truncated.{truncated_is}
use Rattle.set_standing.proofs.commands.a_file_is_truncated.Goals as goal

pub returns : goal.returns
returns c = truncated_is
