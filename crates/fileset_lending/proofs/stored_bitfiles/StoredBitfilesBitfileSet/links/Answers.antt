use Rattle.domain_memory.proofs.OfStoredSet.StableSet.{has_set}
use Rattle.fileset_lending.specs.Shown.{shown_stands}
use Rattle.fileset_lending.proofs.stored_bitfiles.StoredBitfilesBitfileSet.links.Goals as goal

pub links_of-requires : goal.links_of-requires
links_of-requires g c =
    let set = c.args.self.now in
    let pages = g.M.MetaPages.pages set.parts.pages in
    has_set set.parts.files.fileset set.parts.files.tags set.parts.space set.parts.cells pages set.held

pub returns : goal.returns
returns g c =
    let set = c.args.self.now in
    let pages = g.M.MetaPages.pages set.parts.pages in
    c.links_of.ensures _ (shown_stands set.parts.files.fileset set.parts.files.tags set.parts.space set.parts.cells pages set.held)
