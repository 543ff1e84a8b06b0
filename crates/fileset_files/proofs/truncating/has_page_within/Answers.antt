use Rattle.std.proofs.Common.{◌∙◌, sym}
use Rattle.fileset_files.proofs.Truncated.{meets_none, meets_some}
use Rattle.fileset_files.proofs.truncating.has_page_within.Goals as goal

pub returns-clause-some : goal.returns-clause-some
returns-clause-some c = λ is. meets_some c.args.from c.args.to c.requires c.args.map.now c.any_meets.ensures.runs (sym c.any_meets.ensures.value ∙ is)

pub returns-clause-none : goal.returns-clause-none
returns-clause-none c = λ is. meets_none c.args.from c.args.to c.args.map.now (sym c.any_meets.ensures.value ∙ is)
