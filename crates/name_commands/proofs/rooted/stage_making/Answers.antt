use Rattle.name_commands.specs.Ending.{LacksPage}
use Rattle.name_commands.specs.Naming.{creation}
use Rattle.name_commands.proofs.RootMoved.{is_new}
use Rattle.name_commands.proofs.AtRoot.{made_there}
use Rattle.name_commands.proofs.Taken.{never_wanted}
use Rattle.name_commands.proofs.rooted.stage_making.Goals as goal

pub returns-then-is_root-clause-ends : goal.returns-then-is_root-clause-ends
returns-then-is_root-clause-ends c = c.refuse_root.ensures.ends (creation c.args.kind c.args.place.now c.args.uid c.args.gid) (made_there c.args.place.now c.args.kind c.args.uid c.args.gid (c.is_root.ensures.root c.if-is_root.true))

pub returns-then-is_root-clause-cause : goal.returns-then-is_root-clause-cause
returns-then-is_root-clause-cause c = never_wanted (LacksPage (creation c.args.kind c.args.place.now c.args.uid c.args.gid) c.args.memory) c.refuse_root.result.1 c.refuse_root.ensures.pages

pub stage_creation-requires-clause-named : goal.stage_creation-requires-clause-named
stage_creation-requires-clause-named c = is_new c.args.place.now.path c.requires.named (c.is_root.ensures.named c.if-is_root.false)
