use Rattle.file_commands.proofs.OfNameCommands.Means.{none_removed, removed}
use Rattle.client_commands.proofs.laws.what_removals_mean.Goals as goal

pub returns-clause-there : goal.returns-clause-there
returns-clause-there c = removed

pub returns-clause-missing : goal.returns-clause-missing
returns-clause-missing c = none_removed
