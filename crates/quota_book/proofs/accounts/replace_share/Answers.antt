use Rattle.std.proofs.Common.{◌∙◌, ap, subst, sym, arith, refl, length}
use Rattle.std.specs.FinMap.Entries.{put}
use Rattle.fileset_model.specs.fileset_values.Orders.{owner_cmp}
use Rattle.quota_book.specs.declared.account.Account.TheVariants.{Changed}
use Rattle.quota_book.specs.Accounts.{Accounts, AreAccounts, Kept, SetsShare, account_at, is_same, share_on, with_owner}
use Rattle.quota_book.proofs.Shares.{accounts_put, has_room, length_stays, sets_put}
use Rattle.quota_book.proofs.accounts.replace_share.Goals as goal

pub list_owner-requires : goal.list_owner-requires
list_owner-requires c same =
    let es = c.args.accounts.now.items in
    let account = c.account_of-account.ensures ∙ ap (λ (l : Accounts). account_at l c.args.who) c.deref.ensures.value in
    let room = has_room es c.args.who (Changed c.args.share c.args.share) c.args.changed.now.items c.requires.accounts c.requires.there (sym (ap is_same account) ∙ same) refl in
    omega (arith, room, c.requires.room)

pub returns-clause-sets : goal.returns-clause-sets
returns-clause-sets c =
    let es = c.args.accounts.now.items in
    let account = c.account_of-account.ensures ∙ ap (λ (l : Accounts). account_at l c.args.who) c.deref.ensures.value in
    subst (SetsShare c.args.who c.args.share es) (sym c.replace.ensures.items)
    (sets_put es c.args.who c.with.result c.args.share c.with.ensures.now (c.with.ensures.kept ∙ ap (share_on Kept) account))

pub returns-clause-accounts : goal.returns-clause-accounts
returns-clause-accounts c =
    let es = c.args.accounts.now.items in
    let account = c.account_of-account.ensures ∙ ap (λ (l : Accounts). account_at l c.args.who) c.deref.ensures.value in
    let list = c.list_owner.ensures.list ∙ ap (λ a. with_owner (is_same a) c.args.who c.args.changed.now.items) account in
    subst (λ (l : Accounts). AreAccounts l c.list_owner.new.changed.items) (sym c.replace.ensures.items)
    (subst (AreAccounts (put owner_cmp c.args.who c.with.result es)) (sym list)
    (accounts_put es c.args.who c.with.result c.args.changed.now.items c.requires.accounts c.with.ensures.changed))

pub returns-clause-len : goal.returns-clause-len
returns-clause-len c =
    let es = c.args.accounts.now.items in
    let same = ap (λ (l : Accounts). length l) c.replace.ensures.items ∙ length_stays es c.args.who c.with.result c.args.changed.now.items c.requires.accounts c.requires.there in
    omega (arith, same)
