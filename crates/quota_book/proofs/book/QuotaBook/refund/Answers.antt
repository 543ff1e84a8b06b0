use Rattle.std.proofs.Common.{sym}
use Rattle.quota_book.specs.Accounts.{Kept, Now, used_at}
use Rattle.quota_book.specs.Book.{lowered, used}
use Rattle.quota_book.proofs.Shown.{has_same, kept_still, limits_stay, no_trace, used_changes, used_now}
use Rattle.quota_book.proofs.book.QuotaBook.refund.Goals as goal

pub refund_all-requires-clause-enough : goal.refund_all-requires-clause-enough
refund_all-requires-clause-enough c =
    let es = c.self.inside.accounts.items in
    has_same c.args.uid c.args.gid c.args.files c.args.blocks (used c.args.self.now.book) (used_at es) (λ who. sym (used_now es c.args.self.now c.self.view_is c.self.invariant.0.sorted who)) c.requires

pub returns-clause-refunds : goal.returns-clause-refunds
returns-clause-refunds c =
    let es = c.self.inside.accounts.items in
    let fs = c.refund_all.new.accounts.items in
    let change = lowered c.args.files c.args.blocks in
    record {
      totals = used_changes es c.args.self.now c.self.view_is c.self.invariant.0.sorted fs c.refund_all.ensures.accounts.sorted change c.args.uid c.args.gid c.refund_all.ensures.takes;
      limits = limits_stay es c.args.self.now c.self.view_is c.self.invariant.0.sorted fs c.refund_all.ensures.accounts.sorted change _ c.refund_all.ensures.takes;
    }

pub returns-clause-kept : goal.returns-clause-kept
returns-clause-kept c =
    kept_still c.self.inside.accounts.items c.args.self.now c.self.view_is c.self.invariant.0.sorted c.refund_all.new.accounts.items c.refund_all.ensures.accounts.sorted c.refund_all.ensures.takes.kept

pub returns-clause-trace : goal.returns-clause-trace
returns-clause-trace c = no_trace Now c.refund_all.new.accounts.items c.refund_all.ensures.accounts.sorted

pub returns-clause-kept_trace : goal.returns-clause-kept_trace
returns-clause-kept_trace c = no_trace Kept c.refund_all.new.accounts.items c.refund_all.ensures.accounts.sorted
