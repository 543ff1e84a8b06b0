use Rattle.file_commands.proofs.OfNameCommands.Counted.{full}
use Rattle.file_commands.proofs.OfNameCommands.Means.{begun, taken}
use Rattle.client_commands.proofs.laws.what_beginnings_mean.Goals as goal

pub returns-clause-begun : goal.returns-clause-begun
returns-clause-begun c = begun

pub returns-clause-taken : goal.returns-clause-taken
returns-clause-taken c = taken

pub returns-clause-full : goal.returns-clause-full
returns-clause-full c = λ d all name stands none many. full d all stands name none many
