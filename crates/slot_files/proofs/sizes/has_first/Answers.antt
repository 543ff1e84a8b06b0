use Rattle.std.proofs.Common.{◌∙◌, false, true, ◌≡◌, sym, arith}
use Rattle.slot_files.proofs.SaidSizes.{first_ends, first_on}
use Rattle.slot_files.proofs.sizes.has_first.Goals as goal

no_bool : {P : Type 0} → false ≡ true → P
no_bool is = absurd (cc)

pub loop-page-init : goal.loop-page-init
loop-page-init c = λ p below. absurd (omega (arith, below))

pub loop-page-preserved : goal.loop-page-preserved
loop-page-preserved c = first_on c.args.homes.now c.args.count c.loop-page.page c.loop-page.invariant (c.is_right_at.ensures.0 c.if-not-is_right_at.false)

pub returns-then-not-is_right_at : goal.returns-then-not-is_right_at
returns-then-not-is_right_at c = ((λ so. no_bool so), (λ first. no_bool (sym c.if-not-is_right_at.true ∙ c.is_right_at.ensures.1 (first c.loop-page.page))))

pub returns : goal.returns
returns c = first_ends c.args.homes.now c.args.count c.loop-page.page (omega (arith, c.loop-page-test.false)) c.loop-page.invariant c.are_so_many.result c.are_so_many.ensures
