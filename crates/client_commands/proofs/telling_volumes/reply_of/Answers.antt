use Rattle.std.proofs.Common.{Result, inl, subst}
use Rattle.file_commands.specs.fileset_values.declared.reply.Reply.{Reply}
use Rattle.client_commands.specs.Shown.{ShowsAs}
use Rattle.file_commands.specs.name_commands.declared.stop.Stop.{Stop}
use Rattle.client_commands.proofs.telling_volumes.reply_of.Goals as goal

pub returns-in-Ok : goal.returns-in-Ok
returns-in-Ok c = λ memory all command shown. inl (subst (λ (r : Result Reply Stop). ShowsAs memory all command r) c.in-Ok.is shown)
