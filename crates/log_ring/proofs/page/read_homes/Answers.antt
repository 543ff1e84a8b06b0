use Rattle.std.proofs.Common.{arith}
use Rattle.log_ring.proofs.HeaderPages.{home_among, homes_push_to}
use Rattle.log_ring.proofs.page.read_homes.Goals as goal

pub returns-in-None : goal.returns-in-None
returns-in-None c = λ homes size there. let one = home_among c.args.bytes.now 528 homes c.loop-i.i there (omega (arith, size)) in c.in-None.ensures.none one.0 one.1

pub loop-i-preserved : goal.loop-i-preserved
loop-i-preserved c = homes_push_to c.args.bytes.now c.loop-i.i c.loop-i.homes.items c.push.new.self.items c.in-Some.home c.loop-i.invariant c.in-Some.ensures.home c.in_ok-push-in-Some.ensures.items
