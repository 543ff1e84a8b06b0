use Rattle.std.proofs.Common.{◌∙◌, ap}
use Rattle.quota_book.specs.Accounts.{Kept, Now}
use Rattle.quota_book.specs.Book.{KeptBook}
use Rattle.quota_book.proofs.Shown.{no_trace, settled_book}
use Rattle.quota_book.proofs.book.QuotaBook.keep.Goals as goal

pub returns-clause-book : goal.returns-clause-book
returns-clause-book c =
    settled_book c.self.inside.accounts.items c.args.self.now c.self.view_is c.self.invariant.0.sorted c.settle_all.new.accounts.items c.settle_all.ensures.accounts.sorted Now c.settle_all.ensures.settles Now
    ∙ ap (λ (b : KeptBook). b.book) c.self.view_is

pub returns-clause-kept : goal.returns-clause-kept
returns-clause-kept c =
    settled_book c.self.inside.accounts.items c.args.self.now c.self.view_is c.self.invariant.0.sorted c.settle_all.new.accounts.items c.settle_all.ensures.accounts.sorted Now c.settle_all.ensures.settles Kept
    ∙ ap (λ (b : KeptBook). b.book) c.self.view_is

pub returns-clause-trace : goal.returns-clause-trace
returns-clause-trace c = no_trace Now c.settle_all.new.accounts.items c.settle_all.ensures.accounts.sorted
