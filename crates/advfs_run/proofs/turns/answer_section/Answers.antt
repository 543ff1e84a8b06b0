use Rattle.std.proofs.Common.{◌∙◌, ◌++◌, List, map, ap}
use Rattle.domain_attaching.specs.fileset_values.declared.command.Actor.TheVariants.{Client}
use Rattle.domain_attaching.specs.fileset_values.declared.command.Command.{Command}
use Rattle.run_parts.specs.script_text.Turns.{turn_of}
use Rattle.advfs_run.proofs.turns.answer_section.Goals as goal

pub returns-clause-turns : goal.returns-clause-turns
returns-clause-turns g c =
    c.answer_commands.ensures.turns
    ∙ ap (λ (l : List Command). map turn_of c.args.domain.history.entries.items ++ map (λ (command : Command). (Client c.args.section.number, command)) l) c.into_vec-commands.ensures
