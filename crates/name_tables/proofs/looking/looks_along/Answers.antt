use Rattle.std.proofs.Common.{sym, subst}
use Rattle.fileset_lending.specs.name_space.Names.{HasNames}
use Rattle.name_tables.proofs.looking.looks_along.Goals as goal

pub walk-requires-clause-names : goal.walk-requires-clause-names
walk-requires-clause-names g c = subst HasNames (sym c.new-looks.ensures) c.requires.names

pub target-requires : goal.target-requires
target-requires g c = subst HasNames (sym c.new-looks.ensures) c.requires.names
