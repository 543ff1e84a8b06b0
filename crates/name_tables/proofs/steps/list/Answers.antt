use Rattle.std.proofs.Common.{rules}
use Rattle.fileset_lending.proofs.OfNameSpace.Spots.{has_names}
use Rattle.name_tables.proofs.Kept.{directory_there}
use Rattle.name_tables.proofs.steps.list.Goals as goal

pub target-requires : goal.target-requires
target-requires g c = has_names (g.S.BitfileSet.files c.args.set.now) c.requires

pub list_rows-requires-clause-names : goal.list_rows-requires-clause-names
list_rows-requires-clause-names g c = has_names (g.S.BitfileSet.files c.args.set.now) c.requires

pub list_rows-requires-clause-live : goal.list_rows-requires-clause-live
list_rows-requires-clause-live g c =
    let files = g.S.BitfileSet.files c.args.set.now in
    let has = c.requires in
    let led = (c.in-Ok-default-Directory.ensures has.0 has.1.names).1 in
    directory_there files has c.args.path.now c.in-Ok-default-Directory.dir (search (rules, led))
