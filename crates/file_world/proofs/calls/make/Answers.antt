use Rattle.index_pages.specs.page_store.Homes.{pages_of}
use Rattle.file_world.proofs.Kept.{made_or_kept}
use Rattle.file_world.proofs.calls.make.Goals as goal

pub returns : goal.returns
returns c =
    made_or_kept c.args.world.now.files.fileset c.create.new.self.fileset c.create.new.self.tags _ _ c.requires.0 c.create.new.space c.args.world.now.cells c.create.new.cells (pages_of c.args.world.now.pages.entries.items) (pages_of c.create.new.pages.entries.items)
    c.create.result c.create.ensures.fileset (c.create.ensures.ok c.requires.0 c.requires.1) (c.create.ensures.kept c.requires.0 c.requires.1)
