use Rattle.fileset_lending.specs.name_space.Changes.{free_checks}
use Rattle.name_tables.proofs.Kept.{original_of, refusal_keeps}
use Rattle.name_tables.proofs.steps.create.Goals as goal

pub returns-in-Ok : goal.returns-in-Ok
returns-in-Ok g c = let has = c.requires in original_of (c.in-Ok.ensures.ok has.0 has.1).makes

pub returns-in-Err : goal.returns-in-Err
returns-in-Err g c =
    let old = g.S.BitfileSet.files c.args.set.now in
    let new = g.S.BitfileSet.files c.create_at.new.set in
    refusal_keeps (free_checks c.args.path.now) old new (g.S.BitfileSet.missed c.args.set.now) (g.S.BitfileSet.missed c.create_at.new.set) c.in-Err.fault c.refused.result c.in-Err.ensures.err c.requires c.refused.ensures
