use Rattle.std.proofs.Common.{◌∷◌, []}
use Rattle.name_commands.specs.fileset_model.Apply.{read_only}
use Rattle.name_commands.specs.fileset_values.declared.command.Command.TheVariants.{Setquota}
use Rattle.name_commands.specs.fileset_values.declared.reply.Refusal.TheVariants.{NoFileset}
use Rattle.name_commands.specs.domain_changes.Limits.{LimitsNone}
use Rattle.file_commands.proofs.LimitsMeant.{allows_limits, limits_done}
use Rattle.name_commands.proofs.Removal.{found, is_its, refuses_none, staged_some}
use Rattle.file_commands.proofs.Stops.{ends_refused, ends_wanting, wants_page}
use Rattle.file_commands.proofs.limiting.stage_limits.Goals as goal

pub returns-in_err-number-clause-ends : goal.returns-in_err-number-clause-ends
returns-in_err-number-clause-ends c = λ all stands.
    ends_refused c.args.memory.now all (Setquota c.args.fileset.now c.args.who c.args.limits.files c.args.limits.blocks) c.from_residual.result c.in_err-number.field-0.0 NoFileset c.from_residual.ensures.1 c.in_err-number.ensures.none.0
    (refuses_none c.args.memory.now c.args.fileset.now c.requires.settled c.in_err-number.ensures.none.1 all stands (λ s. read_only s ∷ []))

pub set_limits-requires-clause-stands : goal.set_limits-requires-clause-stands
set_limits-requires-clause-stands c = staged_some c.args.memory.now c.requires.settled c.requires.stands

pub set_limits-requires-clause-original : goal.set_limits-requires-clause-original
set_limits-requires-clause-original c =
    is_its _ c.args.fileset.now (found c.args.memory.now c.in_ok-number.number c.args.fileset.now (staged_some c.args.memory.now c.requires.settled c.requires.stands) c.in_ok-number.ensures.there)

pub returns-clause-ends : goal.returns-clause-ends
returns-clause-ends c =
    let limited = c.in_ok-set_limits.ensures in
    limits_done c.args.memory.now c.set_limits.new.memory c.in_ok-number.number c.args.fileset.now c.args.who c.args.limits (found c.args.memory.now c.in_ok-number.number c.args.fileset.now (staged_some c.args.memory.now c.requires.settled c.requires.stands) c.in_ok-number.ensures.there)
    c.requires.settled limited.staged limited.parents limited.books

pub returns-in_err-set_limits-clause-ends : goal.returns-in_err-set_limits-clause-ends
returns-in_err-set_limits-clause-ends c = λ all stands.
    ends_wanting c.set_limits.new.memory all (Setquota c.args.fileset.now c.args.who c.args.limits.files c.args.limits.blocks) c.from_residual-in_err-set_limits.result c.in_err-set_limits.field-0.0 c.from_residual-in_err-set_limits.ensures.1
    (allows_limits c.args.memory.now c.in_ok-number.number c.args.fileset.now c.args.who c.args.limits.files c.args.limits.blocks (found c.args.memory.now c.in_ok-number.number c.args.fileset.now (staged_some c.args.memory.now c.requires.settled c.requires.stands) c.in_ok-number.ensures.there)
    c.requires.settled all stands)

pub returns-in_err-set_limits-clause-cause : goal.returns-in_err-set_limits-clause-cause
returns-in_err-set_limits-clause-cause c = wants_page c.from_residual-in_err-set_limits.result c.in_err-set_limits.field-0.0 (LimitsNone c.args.memory.now.space c.args.memory.now.cells) c.from_residual-in_err-set_limits.ensures.1 c.in_err-set_limits.ensures.cause
