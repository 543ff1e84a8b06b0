use Rattle.release_steps.specs.page_store.Homes.{pages_of}
use Rattle.file_world.proofs.Kept.{created}
use Rattle.release_tables.proofs.Callings.{made_one}
use Rattle.release_tables.proofs.making.make.Goals as goal

pub returns-clause-world : goal.returns-clause-world
returns-clause-world c =
    created c.args.world.now.files.fileset c.create.new.self.fileset c.create.new.self.tags _ _ _ c.requires.0 c.create.new.space c.args.world.now.cells c.create.new.cells (pages_of c.args.world.now.pages.entries.items) (pages_of c.create.new.pages.entries.items)
    c.create.ensures.fileset (c.in_ok-create.ensures.ok c.requires.0 c.requires.1)

pub returns-clause-calls : goal.returns-clause-calls
returns-clause-calls c = λ list files chains stood.
    let world = c.args.world.now in
    let now = c.create.new in
    let e = c.in_ok-create.ensures in
    made_one world.files.fileset c.args.version c.in_ok-create.field-0 world.files.tags now.self.tags list files chains world.space now.space world.cells now.cells (pages_of world.pages.entries.items) (pages_of now.pages.entries.items) _ _
    (e.ok chains stood.together) e.taken e.others e.elsewhere
