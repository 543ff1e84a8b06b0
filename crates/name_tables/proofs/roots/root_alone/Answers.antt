use Rattle.std.proofs.Common.{None, sym}
use Rattle.fileset_lending.specs.page_store.Homes.{pages_of}
use Rattle.fileset_lending.specs.name_space.Names.{root_tag}
use Rattle.fileset_lending.proofs.OfNameSpace.Originals.{tags_same}
use Rattle.name_tables.proofs.Alone.{has_root, no_file}
use Rattle.name_tables.proofs.roots.root_alone.Goals as goal

pub new-set-requires : goal.new-set-requires
new-set-requires c =
    let world = c.in_ok-world.world in
    ((λ t. None), no_file world.files.fileset world.files.tags world.space world.cells (pages_of world.pages.entries.items) c.in_ok-world.ensures.empty.together c.in_ok-world.ensures.empty.low)

pub returns-then-eq : goal.returns-then-eq
returns-then-eq c =
    let world = c.in_ok-world.world in
    has_root _ _ c.in_ok-tag.tag (tags_same c.in_ok-tag.tag root_tag (sym c.if-eq.ensures)) (c.new-set.ensures.files (λ t. None) (no_file world.files.fileset world.files.tags world.space world.cells (pages_of world.pages.entries.items) c.in_ok-world.ensures.empty.together c.in_ok-world.ensures.empty.low)) c.in_ok-tag.ensures.ok
