use Rattle.set_standing.proofs.Written.{put_in}
use Rattle.set_standing.proofs.commands.pages_are_put_in.Goals as goal

pub returns : goal.returns
returns c = put_in
