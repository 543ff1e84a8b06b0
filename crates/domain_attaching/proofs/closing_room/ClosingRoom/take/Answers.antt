use Rattle.std.proofs.Common.{arith}
use Rattle.domain_attaching.proofs.closing_room.ClosingRoom.take.Goals as goal

pub returns : goal.returns
returns c =
    let size = c.in_ok-found.ensures.len in
    let counted = c.in_ok-found.found.ok.0 in
    record {
      marks = c.in_ok-tables.ensures;
      buffer = omega (arith, size, counted);
    }
