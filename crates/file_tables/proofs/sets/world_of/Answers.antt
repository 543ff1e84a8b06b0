use Rattle.release_steps.specs.page_store.Homes.{pages_of}
use Rattle.file_tables.proofs.First.{first_set, if_ok}
use Rattle.file_tables.proofs.sets.world_of.Goals as goal

pub returns : goal.returns
returns c = if_ok (λ world empty. first_set world.files.fileset world.files.tags world.space world.cells (pages_of world.pages.entries.items) empty.together empty.low) c.new_world.result c.new_world.ensures.empty
