use Rattle.domain_changes.specs.fileset_values.declared.command.Command.TheVariants.{Rename}
use Rattle.name_commands.proofs.RootMoved.{is_new, renamed_onto}
use Rattle.name_commands.proofs.rooted.stage_moving.Goals as goal

pub rename_root-requires-clause-root : goal.rename_root-requires-clause-root
rename_root-requires-clause-root c = c.is_root-from_root.ensures.root c.if-from_root.true

pub returns-then-to_root-clause-ends : goal.returns-then-to_root-clause-ends
returns-then-to_root-clause-ends c =
    c.refuse_onto.ensures.ends (Rename c.args.place.now c.args.to.now)
    (renamed_onto c.args.place.now c.args.to.now (c.is_root-from_root.ensures.named c.if-from_root.false) (c.is_root-to_root.ensures.root c.if-to_root.true))

pub stage_rename-requires-clause-some : goal.stage_rename-requires-clause-some
stage_rename-requires-clause-some c = c.is_root-from_root.ensures.named c.if-from_root.false

pub stage_rename-requires-clause-named : goal.stage_rename-requires-clause-named
stage_rename-requires-clause-named c = is_new c.args.to.now c.requires.named (c.is_root-to_root.ensures.named c.if-to_root.false)
