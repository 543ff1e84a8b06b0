use Rattle.std.proofs.Common.{◌↔◌, ◌⊎◌, Contains}
use Rattle.tag_faults.specs.domain_base.declared.place.Home.{Home}
use Rattle.tag_faults.specs.page_ways.Frame.{frame_in}
use Rattle.tag_faults.specs.cell_chains.Links.{cells_of}
use Rattle.tag_faults.proofs.OfCellChains.Each.{SomeBelow}
use Rattle.page_faults.specs.Owned.{IsIndexOf}
use Rattle.page_faults.proofs.homes.push_indexes.Given as goal

abbrev pub invariant-loop-at : goal.invariant-loop-at
invariant-loop-at g l = (home : Home) → Contains l.homes.items home
    ↔ (Contains l.initial.homes.items home ⊎ SomeBelow (cells_of l.links) (λ at link. IsIndexOf (g.M.MetaPages.pages l.pages) (frame_in l.frame) at home) l.at-index)
