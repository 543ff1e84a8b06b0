use Rattle.release_steps.specs.page_store.Homes.{pages_of}
use Rattle.release_tables.specs.Called.{parts_of}
use Rattle.release_tables.proofs.Stoods.{nothing_stood}
use Rattle.release_tables.proofs.Wells.{none_stands}
use Rattle.release_tables.proofs.removing.new_scene.Goals as goal

pub returns : goal.returns
returns c =
    let world = c.in_ok-world.world in
    let list = c.new.result.list in
    nothing_stood world.files.fileset (parts_of world list)
    (none_stands world.files.fileset world.files.tags world.space world.cells (pages_of world.pages.entries.items) c.in_ok-world.ensures.empty list c.new.ensures.entries c.new.ensures.tag_pages)
