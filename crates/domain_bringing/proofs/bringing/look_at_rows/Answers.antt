use Rattle.domain_bringing.proofs.Rows.{begins_with}
use Rattle.domain_bringing.proofs.bringing.look_at_rows.Goals as goal

pub returns-in-Some-clause-first : goal.returns-in-Some-clause-first
returns-in-Some-clause-first c = begins_with c.args.rows.now c.in-Some.row.now c.number.result c.in-Some.ensures.value c.number.ensures.value
