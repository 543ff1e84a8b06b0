use Rattle.file_commands.proofs.OfNameCommands.Means.{missing, there}
use Rattle.file_commands.proofs.OfNameCommands.Counted.{filesets_counted}
use Rattle.client_commands.proofs.laws.what_is_said_of_filesets.Goals as goal

pub returns-clause-there : goal.returns-clause-there
returns-clause-there c = λ d all number entry stand has. there d all stand number entry has

pub returns-clause-missing : goal.returns-clause-missing
returns-clause-missing c = λ d all name stand none. missing d all stand name none

pub returns-clause-counted : goal.returns-clause-counted
returns-clause-counted c = filesets_counted
