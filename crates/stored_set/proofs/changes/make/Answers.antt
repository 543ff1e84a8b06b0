use Rattle.index_pages.specs.fileset_files.Creation.{new_file}
use Rattle.stored_set.proofs.Making.{made_fresh, made_shown, none_made}
use Rattle.stored_set.proofs.changes.make.Goals as goal

pub returns-clause-fresh : goal.returns-clause-fresh
returns-clause-fresh g c = λ set was.
    made_fresh c.args.files.now.fileset c.args.prefer c.args.files.now.tags c.create.new.self.tags c.args.space.now c.create.new.space c.args.cells.now c.create.new.cells (g.M.MetaPages.pages c.args.pages.now) (g.M.MetaPages.pages c.create.new.pages) set was c.args.version
    (new_file c.args.kind c.args.uid c.args.gid c.args.birth) c.create.result (c.create.ensures.ok was.chains was.stands.together)

pub returns-clause-ok : goal.returns-clause-ok
returns-clause-ok g c = λ set was.
    made_shown c.args.files.now.fileset c.args.prefer c.args.files.now.tags c.create.new.self.tags c.args.space.now c.create.new.space c.args.cells.now c.create.new.cells (g.M.MetaPages.pages c.args.pages.now) (g.M.MetaPages.pages c.create.new.pages) set was c.args.version
    (new_file c.args.kind c.args.uid c.args.gid c.args.birth) c.create.result (c.create.ensures.ok was.chains was.stands.together) c.create.ensures.taken c.create.ensures.elsewhere c.create.new.self.fileset c.create.ensures.fileset

pub returns-clause-err : goal.returns-clause-err
returns-clause-err g c = λ set was.
    none_made c.args.files.now c.create.new.self c.args.space.now c.create.new.space c.args.cells.now c.create.new.cells (g.M.MetaPages.pages c.args.pages.now) (g.M.MetaPages.pages c.create.new.pages) set was c.create.result
    c.create.ensures.err c.create.ensures.same c.create.ensures.cells c.create.ensures.pages

pub create-requires : goal.create-requires
create-requires g c = (c.requires.1.chains, c.requires.1.stands.together)
