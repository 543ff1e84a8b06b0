use Rattle.std.proofs.Common.{ℕ, subst, sym}
use Rattle.index_pages.specs.domain_base.declared.version.Version.TheVariants.{Four}
use Rattle.index_pages.specs.page_store.Homes.{pages_of}
use Rattle.index_pages.specs.fileset_files.State.{with_state}
use Rattle.index_pages.specs.fileset_files.States.{HaveStates, new_state}
use Rattle.file_world.proofs.Kept.{created}
use Rattle.file_world.specs.Worlds.{new_directory}
use Rattle.file_world.proofs.states.make_directory.Goals as goal

pub returns-clause-world : goal.returns-clause-world
returns-clause-world c =
    created c.args.world.now.files.fileset c.create.new.self.fileset c.create.new.self.tags _ _ _ c.requires.0 c.create.new.space c.args.world.now.cells c.create.new.cells (pages_of c.args.world.now.pages.entries.items) (pages_of c.create.new.pages.entries.items)
    c.create.ensures.fileset (c.in_ok-tag.ensures.ok c.requires.0 c.requires.1)

pub returns-clause-map : goal.returns-clause-map
returns-clause-map c = λ states was.
    let world = c.args.world.now in
    let new = pages_of c.create.new.pages.entries.items in
    subst (λ (f : ℕ). HaveStates f c.create.new.self.tags c.create.new.space c.create.new.cells new (with_state c.in_ok-tag.tag (new_state new_directory c.in_ok-tag.tag) states)) (sym c.create.ensures.fileset)
    (c.one_file_is_made.ensures.now world.files.fileset world.files.tags c.create.new.self.tags world.space c.create.new.space world.cells c.create.new.cells (pages_of world.pages.entries.items) new c.in_ok-tag.tag Four new_directory states was
    (λ chains are. c.in_ok-tag.ensures.ok chains are))
