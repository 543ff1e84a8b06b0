use Rattle.fileset_lending.specs.Shown.{shown_stands}
use Rattle.fileset_lending.proofs.stored_bitfiles.StoredBitfiles.into_parts.Goals as goal

pub returns-clause-set : goal.returns-clause-set
returns-clause-set g c =
    let set = c.args.self in
    shown_stands set.parts.files.fileset set.parts.files.tags set.parts.space set.parts.cells (g.M.MetaPages.pages set.parts.pages) set.held
