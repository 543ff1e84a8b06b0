use Rattle.no_faults.proofs.Beside.{bits_are_right}
use Rattle.no_faults.proofs.tables.read_bits_are_right.Goals as goal

pub returns : goal.returns
returns c = bits_are_right
