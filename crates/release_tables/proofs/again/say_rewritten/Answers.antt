use Rattle.std.proofs.Common.{None, refl}
use Rattle.release_steps.specs.page_store.Homes.{pages_of}
use Rattle.release_tables.proofs.Wells.{no_files, none_stands}
use Rattle.release_tables.proofs.again.say_rewritten.Goals as goal

pub write_again-requires : goal.write_again-requires
write_again-requires c =
    let world = c.in_ok-world.world in
    (no_files, λ t. None, λ a. refl, none_stands world.files.fileset world.files.tags world.space world.cells (pages_of world.pages.entries.items) c.in_ok-world.ensures.empty c.new-list.result.list c.new-list.ensures.entries c.new-list.ensures.tag_pages)
