use Rattle.domain_changes.specs.fileset_values.declared.command.Command.TheVariants.{Link}
use Rattle.name_commands.proofs.RootMoved.{is_new}
use Rattle.name_commands.proofs.AtRoot.{linked_onto, linked_there}
use Rattle.name_commands.proofs.rooted.stage_linking.Goals as goal

pub returns-then-from_root-clause-ends : goal.returns-then-from_root-clause-ends
returns-then-from_root-clause-ends c = c.refuse_root.ensures.ends (Link c.args.place.now c.args.to.now) (linked_there c.args.place.now c.args.to.now (c.is_root-from_root.ensures.root c.if-from_root.true))

pub returns-then-to_root-clause-ends : goal.returns-then-to_root-clause-ends
returns-then-to_root-clause-ends c = c.refuse_onto.ensures.ends (Link c.args.place.now c.args.to.now) (linked_onto c.args.place.now c.args.to.now (c.is_root-to_root.ensures.root c.if-to_root.true))

pub stage_link-requires-clause-some : goal.stage_link-requires-clause-some
stage_link-requires-clause-some c = c.is_root-from_root.ensures.named c.if-from_root.false

pub stage_link-requires-clause-named : goal.stage_link-requires-clause-named
stage_link-requires-clause-named c = is_new c.args.to.now c.requires.named (c.is_root-to_root.ensures.named c.if-to_root.false)
