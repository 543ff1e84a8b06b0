use Rattle.std.proofs.Common.{None, subst}
use Rattle.standing_laws.specs.release_list.Listing.{Adds}
use Rattle.domain_memory.proofs.Listed.{one_listed}
use Rattle.domain_memory.proofs.listing.put_on_list.Goals as goal

pub loop-at-preserved : goal.loop-at-preserved
loop-at-preserved c =
    one_listed c.deref-at-items.result.now c.loop-at.at-index c.args.list.now.list c.loop-at.list.list c.add.new.self.list c.args.list.now.room c.loop-at.list.room c.add.new.self.room c.at-item.result
    c.loop-at.invariant c.loop-at-test.true
    (subst (λ at. Adds at None c.loop-at.list.list.entries c.add.new.self.list.entries) c.at-item.is c.in-Ok.ensures.ok) c.in-Ok.ensures.tag_pages c.in-Ok.ensures.room
