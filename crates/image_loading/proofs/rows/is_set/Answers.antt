use Rattle.std.proofs.Common.{◌/◌, ◌%◌, get_or, nat_eq, ap}
use Rattle.std.proofs.lemmas.Nat.Bits.{shr_and_one}
use Rattle.image_loading.proofs.rows.is_set.Goals as goal

pub returns : goal.returns
returns c = ap (λ n. nat_eq n 1) (shr_and_one (get_or c.args.bytes.now (c.args.bit / 8) 0) (c.args.bit % 8))
