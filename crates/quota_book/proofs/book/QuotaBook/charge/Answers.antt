use Rattle.std.proofs.Common.{◌∙◌, ap, subst, sym}
use Rattle.fileset_model.specs.Usage.{is_owned}
use Rattle.quota_book.specs.Accounts.{Accounts, ChangesUsage, Kept, Now, books_of, used_at}
use Rattle.quota_book.specs.Book.{HasNoTrace, raised, used}
use Rattle.quota_book.proofs.Shown.{fits_same, kept_still, limits_stay, no_trace, used_changes, used_now}
use Rattle.quota_book.proofs.book.QuotaBook.charge.Goals as goal

pub returns-in_err-reserve-clause-trace : goal.returns-in_err-reserve-clause-trace
returns-in_err-reserve-clause-trace c =
    subst (λ (l : Accounts). HasNoTrace (books_of l).book) (sym c.in_err-reserve.ensures.accounts) (no_trace Now c.self.inside.accounts.items c.self.invariant.0.sorted)

pub returns-in_err-reserve-clause-kept_trace : goal.returns-in_err-reserve-clause-kept_trace
returns-in_err-reserve-clause-kept_trace c =
    subst (λ (l : Accounts). HasNoTrace (books_of l).kept) (sym c.in_err-reserve.ensures.accounts) (no_trace Kept c.self.inside.accounts.items c.self.invariant.0.sorted)

pub charge_all-requires-clause-fits : goal.charge_all-requires-clause-fits
charge_all-requires-clause-fits c =
    let es = c.self.inside.accounts.items in
    fits_same c.args.uid c.args.gid c.args.files c.args.blocks (used c.args.self.now.book) (used_at c.reserve.new.accounts.items)
    (λ who. sym (ap (λ (l : Accounts). used_at l who) c.in_ok-reserve.ensures.accounts ∙ used_now es c.args.self.now c.self.view_is c.self.invariant.0.sorted who)) c.requires

pub returns-clause-ok : goal.returns-clause-ok
returns-clause-ok c =
    let es = c.self.inside.accounts.items in
    let fs = c.charge_all.new.accounts.items in
    let change = raised c.args.files c.args.blocks in
    let adds = subst (λ (l : Accounts). ChangesUsage change (λ who. is_owned who c.args.uid c.args.gid) l fs) c.in_ok-reserve.ensures.accounts c.charge_all.ensures.adds in
    record {
      totals = used_changes es c.args.self.now c.self.view_is c.self.invariant.0.sorted fs c.charge_all.ensures.accounts.sorted change c.args.uid c.args.gid adds;
      limits = limits_stay es c.args.self.now c.self.view_is c.self.invariant.0.sorted fs c.charge_all.ensures.accounts.sorted change _ adds;
    }

pub returns-clause-kept : goal.returns-clause-kept
returns-clause-kept c =
    let fs = c.charge_all.new.accounts.items in
    let adds = subst (λ (l : Accounts). ChangesUsage (raised c.args.files c.args.blocks) (λ who. is_owned who c.args.uid c.args.gid) l fs) c.in_ok-reserve.ensures.accounts c.charge_all.ensures.adds in
    kept_still c.self.inside.accounts.items c.args.self.now c.self.view_is c.self.invariant.0.sorted fs c.charge_all.ensures.accounts.sorted adds.kept

pub returns-clause-trace : goal.returns-clause-trace
returns-clause-trace c = no_trace Now c.charge_all.new.accounts.items c.charge_all.ensures.accounts.sorted

pub returns-clause-kept_trace : goal.returns-clause-kept_trace
returns-clause-kept_trace c = no_trace Kept c.charge_all.new.accounts.items c.charge_all.ensures.accounts.sorted
