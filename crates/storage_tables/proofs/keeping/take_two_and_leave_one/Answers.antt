use Rattle.std.proofs.Common.{sym, subst}
use Rattle.free_space.specs.Spaces.{Spaces, IsHeld}
use Rattle.storage_tables.proofs.Held.{held_allocated, held_more}
use Rattle.storage_tables.proofs.keeping.take_two_and_leave_one.Goals as goal

pub unreserve-requires : goal.unreserve-requires
unreserve-requires c =
    let first = c.in_ok-first.first in
    let held = held_allocated c.args.space.now c.allocate_on.new.self c.args.vol first.vol first.page c.in_ok-first.ensures.some.0 c.in_ok-first.ensures.some.1 c.in_ok-first.ensures.taken in
    subst (λ (s : Spaces). IsHeld s first.vol first.page) (sym c.in_ok-second.ensures.taken) (held_more first.page c.in_ok-second.second.page c.allocate_on.new.self first.vol c.args.vol held)
