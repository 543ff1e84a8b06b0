use Rattle.domain_memory.specs.Maps.{IsReadTo}
use Rattle.domain_memory.proofs.maps.read_map.Given as goal

abbrev pub invariant-loop-page : goal.invariant-loop-page
invariant-loop-page g l = IsReadTo (g.M.MetaPages.pages l.pages) l.vol l.count l.page l.map
