-- No command over filesets is answered by what became of a volume.
use Rattle.std.proofs.Common.{ℕ, subst}
use Rattle.domain_attaching.specs.fileset_model.Apply.{AnswersIfMemory}
use Rattle.domain_attaching.specs.fileset_model.Filesets.{FilesetMap}
use Rattle.domain_attaching.specs.fileset_values.declared.command.Command.{Command}
use Rattle.domain_attaching.specs.fileset_values.declared.reply.Refusal.TheVariants.{NoSpace}
use Rattle.domain_attaching.specs.fileset_values.declared.reply.Reply.{Reply}
use Rattle.domain_attaching.specs.fileset_values.declared.reply.Reply.TheVariants.{Refused}
use Rattle.domain_attaching.specs.domain_memory.declared.memory.DomainMemory.{DomainMemory}
use Rattle.domain_attaching.specs.legal_histories.PlainRun.{IsInside}
use Rattle.client_commands.specs.Shown.{IsShownIfMemory}
use Rattle.domain_attaching.proofs.OfLegalHistories.Inside.{stays_inside}
use Rattle.client_commands.proofs.VolumesTold.{shown_inside}
use Rattle.advfs_run.specs.Quiet.{TellsNoFault}

-- what has no cause that lies outside tells of none
tells_inside : (r : Reply) → IsInside r → TellsNoFault r
tells_inside r inside volume = (λ is. subst IsInside is inside, λ is. subst IsInside is inside)

-- so does what a command means for filesets
pub never_faults : (all : FilesetMap) (c : Command) (r : Reply) (new : FilesetMap) → AnswersIfMemory all c r new → TellsNoFault r
never_faults all c r new means = tells_inside r (stays_inside all c r new means)

-- no other refusal is one of these
pub tells_no_space : (free need : ℕ) → TellsNoFault (Refused (NoSpace free need))
tells_no_space free need volume = (λ is. absurd (cc), λ is. absurd (cc))

-- nor does what is shown of volumes
pub shown_quiet : (memory : DomainMemory) (all : FilesetMap) (c : Command) (r : Reply) → IsShownIfMemory memory all c r → TellsNoFault r
shown_quiet memory all c r shown = tells_inside r (shown_inside memory all c r shown)
