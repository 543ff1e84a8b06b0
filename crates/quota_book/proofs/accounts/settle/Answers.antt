use Rattle.std.proofs.Common.{◌≡◌, ◌∙◌, Some, ap, subst, sym, arith, length, rules}
use Rattle.std.specs.FinMap.Entries.{find}
use Rattle.fileset_model.specs.fileset_values.Orders.{owner_cmp}
use Rattle.quota_book.specs.Accounts.{Accounts, SettlesOne}
use Rattle.quota_book.proofs.Settled.{length_put, settles_put}
use Rattle.quota_book.proofs.accounts.settle.Goals as goal

pub returns-clause-settles : goal.returns-clause-settles
returns-clause-settles c =
    let es = c.args.accounts.now.items in
    let there : find owner_cmp c.args.who es ≡ Some c.in-Some.account.now = search rules in
    subst (SettlesOne c.args.side c.args.who es) (sym c.replace.ensures.items) (settles_put c.args.side c.args.who es c.requires _ there c.share-share.result c.share-share.ensures)

pub returns-clause-len : goal.returns-clause-len
returns-clause-len c =
    let es = c.args.accounts.now.items in
    let there : find owner_cmp c.args.who es ≡ Some c.in-Some.account.now = search rules in
    let same = ap (λ (l : Accounts). length l) c.replace.ensures.items ∙ length_put c.args.side c.args.who es c.requires _ there c.share-share.result in
    omega (arith, same)
