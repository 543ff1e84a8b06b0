use Rattle.std.proofs.Common.{rules}
use Rattle.history_reading.proofs.LineLemmas.{failed, kept, other_has}
use Rattle.history_reading.proofs.lines.entry_with.Goals as goal

pub returns-in_err-entry-clause-malformed : goal.returns-in_err-entry-clause-malformed
returns-in_err-entry-clause-malformed c = λ is. failed c.args.line.now c.in_err-entry.field-0.0 c.in_err-entry.ensures (search rules)

pub returns-clause-ok : goal.returns-clause-ok
returns-clause-ok c = kept c.args.line.now c.in_ok-entry.entry c.confirmed.result c.in_ok-entry.ensures c.confirmed.ensures.ok

pub returns-clause-malformed : goal.returns-clause-malformed
returns-clause-malformed c = λ is. other_has c.args.line.now c.in_ok-entry.entry c.in_ok-entry.ensures (c.confirmed.ensures.malformed is)
