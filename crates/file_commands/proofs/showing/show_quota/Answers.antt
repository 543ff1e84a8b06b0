use Rattle.std.proofs.Common.{◌∷◌, [], subst, sym}
use Rattle.name_commands.specs.fileset_model.Apply.{read_only}
use Rattle.name_commands.specs.fileset_values.declared.command.Command.TheVariants.{Showquota}
use Rattle.name_commands.specs.Ending.{StopsAs}
use Rattle.name_commands.proofs.Given.{original_of_named}
use Rattle.file_commands.proofs.QuotaTold.{quota_told}
use Rattle.name_commands.proofs.Removal.{found, refuses_none, staged_some}
use Rattle.name_commands.proofs.ToldAgain.{replies_stopped}
use Rattle.file_commands.proofs.showing.show_quota.Goals as goal

pub returns-in_err-number : goal.returns-in_err-number
returns-in_err-number c = λ all stands.
    let command = Showquota c.args.fileset.now c.args.who in
    replies_stopped all command c.from_residual.result c.in_err-number.field-0.0 c.from_residual.ensures.1
    (subst (StopsAs all command) (sym c.in_err-number.ensures.none.0) (refuses_none c.args.memory.now c.args.fileset.now c.requires.settled c.in_err-number.ensures.none.1 all stands (λ s. read_only s ∷ [])))

pub used_by-requires-clause-stands : goal.used_by-requires-clause-stands
used_by-requires-clause-stands c = staged_some c.args.memory.now c.requires.settled c.requires.stands

pub used_by-requires-clause-original : goal.used_by-requires-clause-original
used_by-requires-clause-original c =
    original_of_named _ c.args.fileset.now (found c.args.memory.now c.in_ok-number.number c.args.fileset.now (staged_some c.args.memory.now c.requires.settled c.requires.stands) c.in_ok-number.ensures.there)

pub returns : goal.returns
returns c = λ all stands.
    let memory = c.args.memory.now in
    quota_told memory c.in_ok-number.number c.args.fileset.now (found memory c.in_ok-number.number c.args.fileset.now (staged_some memory c.requires.settled c.requires.stands) c.in_ok-number.ensures.there)
    c.requires.settled c.args.who c.used_by.result.0 c.used_by.result.1 c.used_by.ensures.usage c.used_by.ensures.limits all stands
