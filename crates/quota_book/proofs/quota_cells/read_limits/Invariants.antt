use Rattle.std.proofs.Common.{take}
use Rattle.quota_book.specs.QuotaCells.{HasLimits, said_by}
use Rattle.quota_book.proofs.quota_cells.read_limits.Given as goal

abbrev pub invariant-loop-said : goal.invariant-loop-said
invariant-loop-said l = HasLimits (said_by (take l.said-index l.records)) l.book.book
