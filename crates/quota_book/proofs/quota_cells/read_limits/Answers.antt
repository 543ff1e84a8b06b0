use Rattle.std.proofs.Common.{ap, subst, sym}
use Rattle.quota_book.specs.Book.{KeptBook}
use Rattle.quota_book.specs.QuotaCells.{HasLimits, said_by}
use Rattle.quota_book.proofs.Cells.{none_taken, taken_all, taken_more}
use Rattle.quota_book.proofs.quota_cells.read_limits.Goals as goal

pub loop-said-init : goal.loop-said-init
loop-said-init c = none_taken c.new-book.result.book (ap (λ (b : KeptBook). b.book) c.new-book.ensures)

pub loop-said-preserved : goal.loop-said-preserved
loop-said-preserved c =
    taken_more c.args.records.now c.loop-said.said-index _ c.loop-said.book.book c.take_limits.new.book.book c.loop-said-test.true c.requires c.loop-said.invariant c.in_ok-take_limits.ensures.ok

pub returns-clause-limits : goal.returns-clause-limits
returns-clause-limits c =
    subst (HasLimits (said_by c.args.records.now)) (sym c.keep.ensures.book) (taken_all c.args.records.now c.loop-said.said-index c.loop-said.book.book c.loop-said-test.false c.loop-said.invariant)
