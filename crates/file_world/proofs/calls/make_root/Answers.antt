use Rattle.std.proofs.Common.{ap}
use Rattle.index_pages.specs.page_store.Homes.{pages_of}
use Rattle.index_pages.specs.fileset_files.declared.bitfiles.Bitfiles.{Bitfiles}
use Rattle.index_pages.specs.fileset_files.Creation.{root_tag}
use Rattle.file_world.proofs.Kept.{created}
use Rattle.file_world.proofs.calls.make_root.Goals as goal

pub returns : goal.returns
returns c =
    created c.args.world.now.files.fileset c.create_root.new.self.fileset c.create_root.new.self.tags root_tag _ _ c.requires.world.0 c.create_root.new.space c.args.world.now.cells c.create_root.new.cells (pages_of c.args.world.now.pages.entries.items) (pages_of c.create_root.new.pages.entries.items)
    (ap (λ (b : Bitfiles). b.fileset) c.create_root.ensures.same) (c.in_ok-create_root.ensures.ok c.requires.world.0 c.requires.world.1)
