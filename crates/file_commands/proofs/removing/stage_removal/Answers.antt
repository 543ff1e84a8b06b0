use Rattle.std.proofs.Common.{◌∷◌, []}
use Rattle.name_commands.specs.fileset_model.Apply.{has_clone}
use Rattle.name_commands.specs.fileset_model.Paths.{refuse_if}
use Rattle.name_commands.specs.fileset_values.declared.command.Command.TheVariants.{Rmfset}
use Rattle.name_commands.specs.fileset_values.declared.reply.Refusal.TheVariants.{HasClone, NoFileset}
use Rattle.name_commands.proofs.Removal.{answers_done, found, is_its, refuses_none, staged_some}
use Rattle.file_commands.proofs.Stops.{ends_refused}
use Rattle.file_commands.proofs.removing.stage_removal.Goals as goal

pub returns-in_err-number-clause-ends : goal.returns-in_err-number-clause-ends
returns-in_err-number-clause-ends c = λ all stands.
    ends_refused c.args.memory.now all (Rmfset c.args.fileset.now) c.from_residual.result c.in_err-number.field-0.0 NoFileset c.from_residual.ensures.1 c.in_err-number.ensures.none.0
    (refuses_none c.args.memory.now c.args.fileset.now c.requires.settled c.in_err-number.ensures.none.1 all stands (λ s. refuse_if (has_clone all c.args.fileset.now) HasClone ∷ []))

pub begin_to_go-requires-clause-stands : goal.begin_to_go-requires-clause-stands
begin_to_go-requires-clause-stands c = staged_some c.args.memory.now c.requires.settled c.requires.stands

pub begin_to_go-requires-clause-original : goal.begin_to_go-requires-clause-original
begin_to_go-requires-clause-original c =
    is_its _ c.args.fileset.now (found c.args.memory.now c.in_ok-number.number c.args.fileset.now (staged_some c.args.memory.now c.requires.settled c.requires.stands) c.in_ok-number.ensures.there)

pub returns-clause-ends : goal.returns-clause-ends
returns-clause-ends c =
    let began = c.in_ok-begin_to_go.ensures in
    answers_done c.args.memory.now c.begin_to_go.new.memory c.in_ok-number.number c.args.fileset.now (found c.args.memory.now c.in_ok-number.number c.args.fileset.now (staged_some c.args.memory.now c.requires.settled c.requires.stands) c.in_ok-number.ensures.there)
    c.requires.settled began.staged began.parents began.books
