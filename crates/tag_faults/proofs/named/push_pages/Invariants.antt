use Rattle.std.proofs.Common.{◌↔◌, ◌⊎◌, Contains}
use Rattle.cell_faults.specs.domain_base.declared.place.Home.{Home}
use Rattle.cell_faults.proofs.OfSortedSets.Below.{IsBelow}
use Rattle.tag_faults.specs.Entries.{IsEntryThere}
use Rattle.tag_faults.specs.declared.named.NamedCell.{NamedCell}
use Rattle.tag_faults.proofs.named.push_pages.Given as goal

abbrev pub invariant-loop-home : goal.invariant-loop-home
invariant-loop-home g l = (one : NamedCell) → Contains l.entries.items one ↔ (Contains l.initial.entries.items one ⊎ IsBelow {X = Home} l.homes (IsEntryThere (g.M.MetaPages.pages l.pages) l.number one) l.home-index)
