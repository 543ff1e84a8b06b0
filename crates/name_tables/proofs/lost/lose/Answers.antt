use Rattle.std.proofs.Common.{is_some, ap, sym, subst}
use Rattle.fileset_lending.specs.name_space.Names.{HasNames}
use Rattle.fileset_lending.proofs.OfNameSpace.Originals.{is_in}
use Rattle.fileset_lending.proofs.OfNameSpace.Spots.{has_names}
use Rattle.name_tables.proofs.Losses.{lost_names}
use Rattle.name_tables.proofs.lost.lose.Goals as goal

pub target-requires : goal.target-requires
target-requires g c = has_names (g.S.BitfileSet.files c.args.set.now) c.requires

pub remove-requires : goal.remove-requires
remove-requires g c =
    let old = g.S.BitfileSet.files c.args.set.now in
    let has = c.requires in
    ap is_some (is_in old has.0 has.1.names has.1.role c.args.path.now c.in-Ok.tag c.in-Ok.field-0-1 (c.in-Ok.ensures has.0 has.1.names).1).there

pub returns : goal.returns
returns g c =
    let old = g.S.BitfileSet.files c.args.set.now in
    let has = c.requires in
    let had = is_in old has.0 has.1.names has.1.role c.args.path.now c.in-Ok.tag c.in-Ok.field-0-1 (c.in-Ok.ensures has.0 has.1.names).1 in
    subst HasNames (sym c.in_ok-remove.ensures.ok) (lost_names old has c.in-Ok.tag had.file had.there)
