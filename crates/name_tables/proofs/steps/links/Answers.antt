use Rattle.fileset_lending.proofs.OfNameSpace.Spots.{has_names}
use Rattle.name_tables.proofs.steps.links.Goals as goal

pub target-requires : goal.target-requires
target-requires g c = has_names (g.S.BitfileSet.files c.args.set.now) c.requires
