use Rattle.std.proofs.Common.{◌∙◌, ap, is_some, sym}
use Rattle.tag_dirs.proofs.Places.{index_absent, index_there}
use Rattle.tag_dirs.proofs.dir.TagDir.has_index.Goals as goal

pub returns-clause-there : goal.returns-clause-there
returns-clause-there c = λ is. index_there c.args.self.now c.args.index (ap is_some (sym c.number_at.ensures) ∙ sym c.is_some.ensures ∙ is)

pub returns-clause-absent : goal.returns-clause-absent
returns-clause-absent c = λ is. index_absent c.args.self.now c.args.index (ap is_some (sym c.number_at.ensures) ∙ sym c.is_some.ensures ∙ is)
