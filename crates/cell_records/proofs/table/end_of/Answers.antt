use Rattle.std.proofs.Common.{◌<◌, ◌≤◌, sym, arith}
use Rattle.cell_records.proofs.WholeRecord.{scan-unknown}
use Rattle.cell_records.proofs.table.end_of.Goals as goal

pub returns-in_default : goal.returns-in_default
returns-in_default c = sym (scan-unknown c.args.kind c.args.bytes.now (λ is. let low : 1 ≤ c.args.kind = is.0 in let high : c.args.kind < 15 = is.1 in absurd (omega arith)))
