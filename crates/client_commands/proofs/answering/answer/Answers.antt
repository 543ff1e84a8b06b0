use Rattle.std.proofs.Common.{◌∙◌, Result, Err, ap, inl, subst}
use Rattle.file_commands.specs.fileset_values.declared.reply.Reply.{Reply}
use Rattle.file_commands.specs.name_commands.Ending.{EndsAs, StopsAs}
use Rattle.file_commands.specs.name_commands.declared.stop.Stop.{Stop}
use Rattle.client_commands.proofs.answering.answer.Goals as goal

pub add_if_few-requires-clause-answered : goal.add_if_few-requires-clause-answered
add_if_few-requires-clause-answered g c = λ all stands. subst (λ (r : Result Reply Stop). EndsAs c.args.domain.memory all c.args.command r) c.in-Ok.is (c.requires.ends all stands)

pub add_refusal-requires-clause-refused : goal.add_refusal-requires-clause-refused
add_refusal-requires-clause-refused g c = λ all stands.
    inl (subst (λ (s : Stop). StopsAs all c.args.command s) c.in-Refused.is (subst (λ (r : Result Reply Stop). EndsAs c.args.domain.memory all c.args.command r) c.in-Err.is (c.requires.ends all stands)))

pub unreachable-requires : goal.unreachable-requires
unreachable-requires g c = c.requires.found (c.in-Err.is ∙ ap Err c.in-NoPage.is)
