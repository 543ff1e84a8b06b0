use Rattle.std.proofs.Common.{◌∙◌, false, true, ◌≡◌, refl, sym, arith}
use Rattle.slot_files.proofs.SaidSizes.{lost_ends, lost_on}
use Rattle.slot_files.proofs.sizes.loses_page.Goals as goal

no_bool : {P : Type 0} → false ≡ true → P
no_bool is = absurd (cc)

pub loop-page-init : goal.loop-page-init
loop-page-init c = λ p below. absurd (omega (arith, below))

pub loop-page-preserved : goal.loop-page-preserved
loop-page-preserved c = lost_on c.args.places.now c.args.homes.now c.loop-page.page c.loop-page.invariant (λ lost. no_bool (sym c.if-is_lost.false ∙ c.is_lost.ensures.1 lost))

pub returns-then-is_lost : goal.returns-then-is_lost
returns-then-is_lost c = ((λ so. (c.loop-page.page, c.is_lost.ensures.0 c.if-is_lost.true)), (λ lost. refl))

pub returns : goal.returns
returns c = ((λ so. no_bool so), (λ lost. absurd (lost_ends c.args.places.now c.args.homes.now c.loop-page.page (omega (arith, c.loop-page-test.false)) c.loop-page.invariant lost)))
