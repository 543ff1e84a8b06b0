use Rattle.name_commands.specs.Ending.{LacksPage}
use Rattle.name_commands.specs.Leaving.{taking}
use Rattle.name_commands.proofs.AtRoot.{taken_there}
use Rattle.name_commands.proofs.Taken.{never_wanted}
use Rattle.name_commands.proofs.rooted.stage_leaving.Goals as goal

pub returns-then-is_root-clause-ends : goal.returns-then-is_root-clause-ends
returns-then-is_root-clause-ends c = c.refuse_root.ensures.ends (taking c.args.of c.args.place.now) (taken_there c.args.place.now c.args.of c.refusal_onto-refusal.result (c.is_root.ensures.root c.if-is_root.true) c.refusal_onto-refusal.ensures)

pub returns-then-is_root-clause-cause : goal.returns-then-is_root-clause-cause
returns-then-is_root-clause-cause c = never_wanted (LacksPage (taking c.args.of c.args.place.now) c.args.memory) c.refuse_root.result.1 c.refuse_root.ensures.pages
