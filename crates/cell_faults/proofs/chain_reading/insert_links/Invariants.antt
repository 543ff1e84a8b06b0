use Rattle.cell_faults.specs.Links.{AreLinksOn}
use Rattle.cell_faults.proofs.chain_reading.insert_links.Given as goal

abbrev pub invariant-loop-cell : goal.invariant-loop-cell
invariant-loop-cell l = AreLinksOn l.initial.links l.links l.page l.home l.cell
