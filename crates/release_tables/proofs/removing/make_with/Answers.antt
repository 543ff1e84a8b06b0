use Rattle.release_tables.specs.Called.{fileset_in, parts_of}
use Rattle.release_tables.proofs.Stoods.{made_stood}
use Rattle.release_tables.proofs.removing.make_with.Goals as goal

pub make-requires : goal.make-requires
make-requires c = (c.requires.1, c.requires.3.together)

pub returns : goal.returns
returns c =
    let r = c.requires in
    let list = c.args.list.now.list in
    let first = fileset_in (parts_of c.args.world.now list) r.0 r.1 in
    made_stood c.in_ok-tag.ensures.fileset (c.in_ok-tag.ensures.calls list r.0 r.1 r.3) c.in_ok-give_pages.ensures.fileset (c.in_ok-give_pages.ensures.calls first list) r.2 r.3
