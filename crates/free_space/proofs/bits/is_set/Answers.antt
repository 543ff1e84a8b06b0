use Rattle.std.proofs.Common.{◌/◌, get_or, refl}
use Rattle.free_space.proofs.WrongBits.{tested}
use Rattle.free_space.proofs.bits.is_set.Goals as goal

pub returns : goal.returns
returns c = tested c.args.bytes.now c.args.bit (get_or c.args.bytes.now (c.args.bit / 8) 0) refl
