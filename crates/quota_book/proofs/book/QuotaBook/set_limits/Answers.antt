use Rattle.std.proofs.Common.{◌≡◌, ◌∙◌, ap, subst}
use Rattle.fileset_model.specs.Usage.{with_limits}
use Rattle.fileset_model.specs.declared.fileset.Usage.{Usage}
use Rattle.quota_book.specs.declared.account.Account.{Account}
use Rattle.quota_book.specs.declared.account.Share.{Share}
use Rattle.quota_book.specs.Accounts.{Accounts, Now, SetsShare, account_at, share_on, used_at}
use Rattle.quota_book.specs.Book.{KeptBook}
use Rattle.quota_book.proofs.Shown.{kept_still, limits_set}
use Rattle.quota_book.proofs.book.QuotaBook.set_limits.Goals as goal

pub returns-clause-ok : goal.returns-clause-ok
returns-clause-ok c =
    let who = c.args.who in
    let es = c.self.inside.accounts.items in
    let fs = c.put_share.new.accounts.items in
    let usage : c.share.result.usage ≡ used_at es who =
    ap (λ (s : Share). s.usage) (c.share.ensures ∙ ap (λ (a : Account). share_on Now a) (c.account_of.ensures ∙ ap (λ (l : Accounts). account_at l who) (c.deref.ensures.value ∙ c.in_ok-reserve.ensures.accounts))) in
    let sets = subst (λ (u : Usage). SetsShare who (record { usage = u; limits = c.args.limits }) es fs) usage
    (subst (λ (l : Accounts). SetsShare who (record { usage = c.share.result.usage; limits = c.args.limits }) l fs) c.in_ok-reserve.ensures.accounts c.put_share.ensures.sets) in
    limits_set es fs who c.args.limits c.self.invariant.0.sorted c.put_share.ensures.accounts.sorted sets
    ∙ ap (λ (b : KeptBook). record b.book { limits = with_limits b.book.limits who c.args.limits }) c.self.view_is

pub returns-clause-kept : goal.returns-clause-kept
returns-clause-kept c =
    let es = c.self.inside.accounts.items in
    let fs = c.put_share.new.accounts.items in
    let sets = subst (λ (l : Accounts). SetsShare c.args.who (record { usage = c.share.result.usage; limits = c.args.limits }) l fs) c.in_ok-reserve.ensures.accounts c.put_share.ensures.sets in
    kept_still es c.args.self.now c.self.view_is c.self.invariant.0.sorted fs c.put_share.ensures.accounts.sorted sets.kept
