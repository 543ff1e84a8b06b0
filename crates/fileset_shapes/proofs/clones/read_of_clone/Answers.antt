use Rattle.std.proofs.Common.{◌∙◌, sym}
use Rattle.fileset_shapes.proofs.OwnFiles.{chain_there, may_be_source, of_original, of_own}
use Rattle.fileset_shapes.proofs.clones.read_of_clone.Goals as goal

pub read_own-requires-clause-source : goal.read_own-requires-clause-source
read_own-requires-clause-source g c = λ chains cells are there live.
    let pages = g.M.MetaPages.pages c.args.pages.now in
    may_be_source pages c.args.clone.now c.args.original.now c.args.number c.requires c.args.tag c.in-Some.at cells (sym c.look.ensures ∙ c.in-Some.is)
    (chain_there pages c.args.clone.now.files.fileset c.args.clone.now.tags chains are c.args.tag c.in-Some.at cells (sym c.look.ensures ∙ c.in-Some.is) there) live

pub returns-in-Some-clause-seen : goal.returns-in-Some-clause-seen
returns-in-Some-clause-seen g c = λ own behind are also.
    of_own (g.M.MetaPages.pages c.args.pages.now) c.args.clone.now.files.fileset c.args.clone.now.tags own are c.args.tag c.in-Some.at (sym c.look.ensures ∙ c.in-Some.is) c.args.number (behind c.args.tag)
    c.read_own.result (λ cells there. c.read_own.ensures.seen own cells are there)

pub returns-in-None-clause-seen : goal.returns-in-None-clause-seen
returns-in-None-clause-seen g c = λ own behind are also.
    of_original (g.M.MetaPages.pages c.args.pages.now) c.args.clone.now.files.fileset c.args.clone.now.tags own are c.args.tag (sym c.look.ensures ∙ c.in-None.is) c.args.number (behind c.args.tag)
    c.read_through.result (c.read_through.ensures.seen behind also)
