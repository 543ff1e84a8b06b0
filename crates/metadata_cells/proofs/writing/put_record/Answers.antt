use Rattle.std.proofs.Common.{subst, length, ◌≤◌}
use Rattle.cell_records.proofs.WholeRecord.{length-spelling}
use Rattle.metadata_cells.proofs.writing.put_record.Goals as goal

pub write_record-requires-clause-room : goal.write_record-requires-clause-room
write_record-requires-clause-room c = subst (λ n. n ≤ length c.args.out.now) (length-spelling c.args.value.now c.requires.good) c.requires.room
