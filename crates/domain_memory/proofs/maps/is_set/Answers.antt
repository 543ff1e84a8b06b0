use Rattle.std.proofs.Common.{◌/◌, get_or, refl}
use Rattle.standing_laws.proofs.OfFreeSpace.WrongBits.{tested}
use Rattle.domain_memory.proofs.maps.is_set.Goals as goal

pub returns : goal.returns
returns c = tested c.args.bytes.now c.args.bit (get_or c.args.bytes.now (c.args.bit / 8) 0) refl
