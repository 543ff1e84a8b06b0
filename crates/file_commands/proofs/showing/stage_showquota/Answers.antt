use Rattle.std.proofs.Common.{refl}
use Rattle.std.proofs.Math.Logic.{∥∥₁_map}
use Rattle.name_commands.specs.fileset_values.declared.command.Command.TheVariants.{Showquota}
use Rattle.name_commands.proofs.OfNameChanges.Same.{still_keeps}
use Rattle.name_commands.proofs.PlacedThere.{same_itself}
use Rattle.name_commands.proofs.ToldAgain.{ends_told}
use Rattle.file_commands.proofs.showing.stage_showquota.Goals as goal

pub returns-clause-ends : goal.returns-clause-ends
returns-clause-ends c = λ all stands. ends_told c.args.memory (Showquota c.args.fileset.now c.args.who) c.show_quota-answer.result c.requires.settled all stands refl (c.show_quota-answer.ensures all stands)

pub returns-clause-kept : goal.returns-clause-kept
returns-clause-kept c = ∥∥₁_map c.requires.back (λ m. still_keeps c.args.memory c.args.memory (same_itself c.args.memory))
