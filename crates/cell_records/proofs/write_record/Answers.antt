use Rattle.std.proofs.Common.{sym, ◌∙◌}
use Rattle.cell_records.proofs.WholeRecord.{spelled_is, length-spelling}
use Rattle.cell_records.proofs.write_record.Goals as goal

pub returns-clause-length : goal.returns-clause-length
returns-clause-length c = c.put_record.ensures.size ∙ sym (length-spelling c.args.value.now c.requires.allowed)

pub returns-clause-written : goal.returns-clause-written
returns-clause-written c = rw (spelled_is c.args.value.now, c.put_record.ensures.size) c.put_record.ensures.written
