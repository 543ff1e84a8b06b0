use Rattle.advfs_run.proofs.Scripts.{script_served}
use Rattle.advfs_run.proofs.laws.a_script_is_served.Goals as goal

pub returns : goal.returns
returns c = script_served
