use Rattle.std.proofs.Common.{sym, subst}
use Rattle.free_space.specs.Spaces.{Spaces, IsHeld}
use Rattle.storage_tables.proofs.Held.{held_allocated, held_keeping}
use Rattle.storage_tables.proofs.keeping.take_keep_and_give_back.Goals as goal

pub give_back-requires : goal.give_back-requires
give_back-requires c =
    let home = c.in_ok-home.home in
    let held = held_allocated c.args.space.now c.allocate_on.new.self c.args.vol home.vol home.page c.in_ok-home.ensures.some.0 c.in_ok-home.ensures.some.1 c.in_ok-home.ensures.taken in
    subst (λ (s : Spaces). IsHeld s home.vol home.page) (sym c.keep.ensures) (held_keeping home.page c.allocate_on.new.self home.vol held)
