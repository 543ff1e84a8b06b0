use Rattle.std.proofs.Common.{◌≡◌, ◌-◌, ◌<◌, suc, length, refl, ap, subst, arith}
use Rattle.std.proofs.lemmas.Option.{slice_get-get_or}
use Rattle.no_faults.specs.quota_book.Book.{KeptBook}
use Rattle.attached_domain.proofs.LimitsSet.{SaysFrom, says_all, says_none, says_on}
use Rattle.attached_domain.proofs.limits.limits_alone.Goals as goal

pub loop-i-init : goal.loop-i-init
loop-i-init c = says_none c.args.records.now (length c.args.records.now) c.new-book.result.book (ap (λ (b : KeptBook). b.book) c.new-book.ensures) refl

pub loop-i-preserved : goal.loop-i-preserved
loop-i-preserved c =
    let records = c.args.records.now in
    let within : c.loop-i.i - 1 < length records = omega arith in
    let next : c.loop-i.i ≡ suc (c.loop-i.i - 1) = omega arith in
    says_on records (c.loop-i.i - 1) _ c.loop-i.book.book c.take_said.new.book.book (slice_get-get_or records (c.loop-i.i - 1) _ within)
    (subst (λ k. SaysFrom k records c.loop-i.book.book) next c.loop-i.invariant) c.in_ok-take_said.ensures

pub returns : goal.returns
returns c =
    let records = c.args.records.now in
    let last = c.loop-i-test.false in
    let none : c.loop-i.i ≡ 0 = omega (arith, last) in
    says_all c.args.entry.now records c.loop-i.book.book c.take_limits.new.book.book (subst (λ k. SaysFrom k records c.loop-i.book.book) none c.loop-i.invariant) c.in_ok-take_limits.ensures
