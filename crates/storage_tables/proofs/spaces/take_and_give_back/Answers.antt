use Rattle.std.proofs.Common.{ℕ, sym, subst}
use Rattle.free_space.specs.VolumeSpace.{with_page}
use Rattle.free_space.specs.Spaces.{Spaces, IsHeld, change_volume}
use Rattle.free_space.proofs.Places.{held_taken, free_can}
use Rattle.storage_tables.proofs.spaces.take_and_give_back.Goals as goal

pub give_back-requires : goal.give_back-requires
give_back-requires c =
    let taken = c.in_ok-home.ensures.taken in
    let some = c.in_ok-home.ensures.some in
    subst (λ (s : Spaces). IsHeld s c.in_ok-home.home.vol c.in_ok-home.home.page) (sym taken)
    (subst (λ (vol : ℕ). IsHeld (change_volume (with_page c.in_ok-home.home.page) c.args.space.now c.args.vol) vol c.in_ok-home.home.page) (sym some.0)
    (held_taken c.args.space.now c.args.vol c.in_ok-home.home.page (free_can c.args.space.now c.args.vol c.in_ok-home.home.page some.1)))
