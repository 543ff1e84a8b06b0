use Rattle.fileset_files.proofs.Live.{each_named, none_named}
use Rattle.fileset_files.proofs.bitfiles.Bitfiles.tag_on.Goals as goal

pub returns-clause-there : goal.returns-clause-there
returns-clause-there g c = λ chains are.
    each_named c.args.self.now.fileset c.args.self.now.tags (g.M.MetaPages.pages c.args.pages.now) chains are c.tag_on.result c.tag_on.ensures.there

pub returns-clause-none : goal.returns-clause-none
returns-clause-none g c = λ chains are.
    none_named c.args.self.now.fileset c.args.self.now.tags c.args.number (g.M.MetaPages.pages c.args.pages.now) chains are c.tag_on.result c.tag_on.ensures.none
