use Rattle.log_ring.specs.Header.{AreHomesOf}
use Rattle.log_ring.proofs.page.read_homes.Given as goal

abbrev pub invariant-loop-i : goal.invariant-loop-i
invariant-loop-i l = AreHomesOf l.bytes l.i l.homes.items
