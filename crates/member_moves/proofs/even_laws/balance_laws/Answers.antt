use Rattle.member_moves.proofs.Falls.{unevenness_falls}
use Rattle.member_moves.proofs.Moved.{counts_moved, product_after}
use Rattle.member_moves.proofs.Nearer.{level_nearer}
use Rattle.member_moves.proofs.Spread.{even_spread, open_spread}
use Rattle.member_moves.proofs.even_laws.balance_laws.Goals as goal

pub returns-clause-counts : goal.returns-clause-counts
returns-clause-counts c = counts_moved

pub returns-clause-unit : goal.returns-clause-unit
returns-clause-unit c counts full empty = product_after full empty counts

pub returns-clause-falls : goal.returns-clause-falls
returns-clause-falls c = unevenness_falls

pub returns-clause-nearer : goal.returns-clause-nearer
returns-clause-nearer c = level_nearer

pub returns-clause-spread : goal.returns-clause-spread
returns-clause-spread c = open_spread

pub returns-clause-even : goal.returns-clause-even
returns-clause-even c = even_spread
