use Rattle.std.proofs.Common.{cond, sym, ap, ◌∙◌}
use Rattle.extent_records.specs.Writing.{parts}
use Rattle.extent_records.proofs.WritingLemmas.{parts_plain}
use Rattle.extent_records.proofs.writing.halves_in.Goals as goal

pub returns-else-has_dense_rows-clause-none : goal.returns-else-has_dense_rows-clause-none
returns-else-has_dense_rows-clause-none c =
    ap (λ dense. parts (cond dense 65535 65536) c.args.runs.now) (sym c.has_dense_rows.ensures ∙ c.if-has_dense_rows.false) ∙ parts_plain c.args.runs.now c.requires
