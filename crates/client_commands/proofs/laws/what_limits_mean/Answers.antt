use Rattle.file_commands.proofs.OfNameCommands.Means.{limited, none_limited}
use Rattle.client_commands.proofs.laws.what_limits_mean.Goals as goal

pub returns-clause-there : goal.returns-clause-there
returns-clause-there c = limited

pub returns-clause-missing : goal.returns-clause-missing
returns-clause-missing c = none_limited
