use Rattle.std.proofs.Common.{subst, sym}
use Rattle.file_commands.specs.fileset_values.declared.command.Command.{Command}
use Rattle.client_commands.specs.Shown.{ShowsAs}
use Rattle.file_commands.proofs.OfNameCommands.PlacedThere.{same_itself}
use Rattle.client_commands.proofs.showing_volumes.show_volumes.Goals as goal

pub returns-in-Showfdmn-clause-same : goal.returns-in-Showfdmn-clause-same
returns-in-Showfdmn-clause-same c = same_itself c.args.memory

pub returns-in-Showfdmn-clause-shown : goal.returns-in-Showfdmn-clause-shown
returns-in-Showfdmn-clause-shown c = λ all stands. subst (λ (x : Command). ShowsAs c.args.memory all x c.show_members-answer.result) (sym c.in-Showfdmn.is) (c.show_members-answer.ensures all)

pub returns-in-Showfile-clause-shown : goal.returns-in-Showfile-clause-shown
returns-in-Showfile-clause-shown c = λ all stands. subst (λ (x : Command). ShowsAs c.args.memory all x c.show_file.result.1) (sym c.in-Showfile.is) (c.show_file.ensures.shown all stands)
