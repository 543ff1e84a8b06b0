use Rattle.std.proofs.Common.{refl}
use Rattle.directory_faults.proofs.Noted.{now_noted, was_noted}
use Rattle.directory_faults.proofs.names.note_name.Goals as goal

pub returns : goal.returns
returns c = record {
  again = was_noted c.args.names.now c.args.row.now (c.args.row.now.at.dir, c.as_slice.result) c.in_ok-is_new.is_new refl c.as_slice.ensures c.in_ok-is_new.ensures.added;
  noted = now_noted c.args.names.now c.insert.new.self c.args.row.now (c.args.row.now.at.dir, c.as_slice.result) refl c.as_slice.ensures c.in_ok-is_new.ensures.updates.0;
}
