use Rattle.set_standing.proofs.Written.{written_is}
use Rattle.set_standing.proofs.commands.a_file_is_written.Goals as goal

pub returns : goal.returns
returns c = written_is
