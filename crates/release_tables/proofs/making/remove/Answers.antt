use Rattle.release_steps.specs.page_store.Homes.{pages_of}
use Rattle.release_tables.proofs.Goings.{removed_going}
use Rattle.release_tables.proofs.making.remove.Goals as goal

pub returns-clause-world : goal.returns-clause-world
returns-clause-world c = let world = c.args.world.now in (_, c.in_ok-remove.ensures.together world.space world.cells c.requires.0 c.requires.1)

pub returns-clause-going : goal.returns-clause-going
returns-clause-going c =
    let world = c.args.world.now in
    removed_going (pages_of world.pages.entries.items) world.files.fileset world.files.tags world.space world.cells c.args.tag c.requires.0 c.requires.1 (pages_of c.remove.new.pages.entries.items) _
    (c.in_ok-remove.ensures.together world.space world.cells c.requires.0 c.requires.1).allocated (c.in_ok-remove.ensures.ok c.requires.0 c.requires.1.files).pending
