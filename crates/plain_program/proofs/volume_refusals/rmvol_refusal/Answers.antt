use Rattle.std.proofs.Common.{arith}
use Rattle.std.proofs.lemmas.Grind.{common_steps}
use Rattle.std.proofs.lemmas.Bool.Decides.{nat_tests}
use Rattle.plain_program.proofs.MemberLemmas.{len-members}
use Rattle.plain_program.proofs.volume_refusals.rmvol_refusal.Goals as goal

pub returns-then-members-eq1 : goal.returns-then-members-eq1
returns-then-members-eq1 c = rw (len-members c.args.members.now c.requires) (grind (arith, common_steps, nat_tests))

pub returns : goal.returns
returns c = rw (len-members c.args.members.now c.requires) (grind (arith, common_steps, nat_tests))
