use Rattle.script_text.proofs.OfCommandText.CommandLemmas.{printed_says}
use Rattle.history_reading.proofs.OneCommand.{one_command}
use Rattle.history_reading.proofs.laws.printed_commands_are_read.Goals as goal

pub returns-clause-said : goal.returns-clause-said
returns-clause-said c = printed_says

pub returns-clause-one : goal.returns-clause-one
returns-clause-one c = one_command
