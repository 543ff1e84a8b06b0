use Rattle.std.proofs.Common.{◌∙◌, ap}
use Rattle.quota_book.specs.declared.account.Account.{Account}
use Rattle.quota_book.specs.declared.account.Share.{Share}
use Rattle.quota_book.specs.Accounts.{Accounts, Now, account_at, share_on}
use Rattle.quota_book.proofs.Shown.{used_now}
use Rattle.quota_book.proofs.book.QuotaBook.usage.Goals as goal

pub returns : goal.returns
returns c =
    let account = c.account_of.ensures ∙ ap (λ (l : Accounts). account_at l c.args.who) c.deref.ensures.value in
    ap (λ (s : Share). s.usage) (c.share.ensures ∙ ap (λ (a : Account). share_on Now a) account) ∙ used_now c.self.inside.accounts.items c.args.self.now c.self.view_is c.self.invariant.0.sorted c.args.who
