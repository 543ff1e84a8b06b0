use Rattle.fileset_lending.specs.Shown.{shown_is}
use Rattle.fileset_lending.proofs.stored_bitfiles.StoredBitfiles.new.Goals as goal

pub returns-clause-files : goal.returns-clause-files
returns-clause-files g c = λ set was. let parts = c.args.parts in shown_is parts.files.fileset parts.files.tags parts.space parts.cells (g.M.MetaPages.pages parts.pages) _ set was
