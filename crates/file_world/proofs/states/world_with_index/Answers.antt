use Rattle.std.proofs.Common.{None, refl}
use Rattle.index_pages.specs.page_store.Homes.{pages_of}
use Rattle.file_world.proofs.states.world_with_index.Goals as goal

pub returns : goal.returns
returns c =
    let first = c.in_ok-world.ensures.empty.together in
    c.in_ok-say_index.ensures.map _ (c.in_ok-tag.ensures.map (λ t. None) (record { chains = λ t. None; together = first; are = refl }))
