use Rattle.std.proofs.Common.{Ok, refl}
use Rattle.std.proofs.Math.Logic.{∥∥₁_map}
use Rattle.name_commands.specs.fileset_values.declared.command.Command.TheVariants.{Cancel, Sync}
use Rattle.name_commands.specs.fileset_values.declared.reply.Reply.TheVariants.{Done}
use Rattle.name_commands.proofs.OfNameChanges.Same.{still_keeps}
use Rattle.name_commands.proofs.PlacedThere.{same_itself}
use Rattle.name_commands.proofs.ToldAgain.{ends_told}
use Rattle.file_commands.proofs.lasting.stage_nothing.Goals as goal

pub returns-clause-sync : goal.returns-clause-sync
returns-clause-sync c = λ all stands. ends_told c.args.memory Sync (Ok Done) c.requires.settled all stands refl (refl, refl)

pub returns-clause-cancel : goal.returns-clause-cancel
returns-clause-cancel c = λ all stands. ends_told c.args.memory Cancel (Ok Done) c.requires.settled all stands refl (refl, refl)

pub returns-clause-kept : goal.returns-clause-kept
returns-clause-kept c = ∥∥₁_map c.requires.back (λ m. still_keeps c.args.memory c.args.memory (same_itself c.args.memory))
