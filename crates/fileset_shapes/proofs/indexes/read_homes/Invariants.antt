use Rattle.filesets_reading.specs.domain_layout.Reached.{index_way}
use Rattle.fileset_shapes.specs.Indexes.{IsWholeIndex}
use Rattle.filesets_reading.proofs.Ways.{IsWayTo}
use Rattle.fileset_shapes.proofs.indexes.read_homes.Given as goal

abbrev pub invariant-loop : goal.invariant-loop
invariant-loop g l = (whole : IsWholeIndex (g.M.MetaPages.pages l.pages) l.first) → IsWayTo (g.M.MetaPages.pages l.pages) whole.0 (index_way l.first) l.homes.items l.home
