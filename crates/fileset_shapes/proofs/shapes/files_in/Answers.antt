use Rattle.page_ways.specs.Frame.{frame_in}
use Rattle.fileset_shapes.proofs.SeenShapes.{files_by, good, may_have_files, tags_at}
use Rattle.fileset_shapes.proofs.shapes.files_in.Goals as goal

pub read_tags-requires-clause-good : goal.read_tags-requires-clause-good
read_tags-requires-clause-good g c = good (g.M.MetaPages.pages c.args.pages.now) (frame_in c.args.domain.now) c.args.tables.now c.requires.domain

pub read_tags-requires-clause-tags : goal.read_tags-requires-clause-tags
read_tags-requires-clause-tags g c = tags_at (g.M.MetaPages.pages c.args.pages.now) (frame_in c.args.domain.now) c.args.tables.now c.requires.domain c.args.number c.args.entry.now c.requires.entry

pub look_at_files-requires : goal.look_at_files-requires
look_at_files-requires g c =
    may_have_files (g.M.MetaPages.pages c.args.pages.now) (frame_in c.args.domain.now) c.args.tables.now c.requires.domain c.args.number c.args.entry.now c.requires.entry c.in_ok-tags.tags c.in_ok-tags.ensures

pub read_tags-requires-2-clause-good : goal.read_tags-requires-2-clause-good
read_tags-requires-2-clause-good g c = good (g.M.MetaPages.pages c.args.pages.now) (frame_in c.args.domain.now) c.args.tables.now c.requires.domain

pub read_tags-requires-2-clause-tags : goal.read_tags-requires-2-clause-tags
read_tags-requires-2-clause-tags g c = tags_at (g.M.MetaPages.pages c.args.pages.now) (frame_in c.args.domain.now) c.args.tables.now c.requires.domain c.args.number c.args.entry.now c.requires.entry

pub returns : goal.returns
returns g c =
    files_by (g.M.MetaPages.pages c.args.pages.now) (frame_in c.args.domain.now) c.args.tables.now c.requires.domain c.args.number c.args.entry.now (record { tags = c.in_ok-tags.tags; files = c.new.result })
    c.in_ok-again.again c.new.ensures.fileset c.new.ensures.tags c.in_ok-tags.ensures c.in_ok-again.ensures c.in_ok-look_at_files.ensures
