use Rattle.std.proofs.Common.{arith}
use Rattle.slot_files.proofs.SaidSizes.{right_below}
use Rattle.slot_files.proofs.sizes.is_right_at.Goals as goal

pub returns-then-page-count : goal.returns-then-page-count
returns-then-page-count c = right_below c.args.homes.now c.args.count c.args.page (omega arith) _ c.has_home.ensures
