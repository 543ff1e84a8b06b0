use Rattle.release_steps.specs.domain_base.declared.place.Kind.TheVariants.{Directory}
use Rattle.release_steps.specs.page_store.Homes.{pages_of}
use Rattle.file_tables.proofs.First.{is_directory}
use Rattle.file_tables.specs.Worlds.{only_new}
use Rattle.file_tables.proofs.refused.try_index.Goals as goal

pub insert_index_page-requires-clause-directory : goal.insert_index_page-requires-clause-directory
insert_index_page-requires-clause-directory c = λ set was.
    let world = c.args.world.now in
    is_directory set c.args.tag (c.one_set_is_shown.ensures world.files.fileset world.files.tags world.space world.space world.cells world.cells (pages_of world.pages.entries.items) (only_new Directory c.args.tag) set c.args.tag c.requires was)
