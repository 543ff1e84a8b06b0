use Rattle.std.proofs.Common.{◌∙◌, subst}
use Rattle.name_changes.specs.Stages.{IsRefused}
use Rattle.name_commands.proofs.Created.{first_before, first_behind}
use Rattle.name_commands.proofs.creating.stop_for.Goals as goal

pub returns-in-Refused : goal.returns-in-Refused
returns-in-Refused c = λ checks fileset refused. first_before (checks fileset) c.args.over c.in-Refused.refusal (subst (IsRefused checks fileset) c.in-Refused.is refused)

pub returns-in-Some : goal.returns-in-Some
returns-in-Some c = λ checks fileset refused. first_behind (checks fileset) c.args.over (subst (IsRefused checks fileset) c.in-NoPage.is refused) ∙ c.in-Some.is

pub returns-in-None : goal.returns-in-None
returns-in-None c = λ checks fileset refused. first_behind (checks fileset) c.args.over (subst (IsRefused checks fileset) c.in-NoPage.is refused) ∙ c.in-None.is
