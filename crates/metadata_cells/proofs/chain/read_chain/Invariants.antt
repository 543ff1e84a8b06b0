use Rattle.std.proofs.Common.{nat_eq}
use Rattle.std.specs.HashSet.{contains}
use Rattle.metadata_cells.proofs.Walk.{IsWalk}
use Rattle.metadata_cells.proofs.chain.read_chain.Given as goal

abbrev pub invariant-loop : goal.invariant-loop
invariant-loop g l = IsWalk (g.M.MetaPages.pages l.pages) l.fn.start l.records.items (contains nat_eq l.seen) l.last l.kind l.next
