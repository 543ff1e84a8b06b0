use Rattle.std.proofs.Common.{◌≡◌, ◌∙◌, false, true, sym}
use Rattle.domain_bringing.proofs.Causes.{never_wrong}
use Rattle.domain_bringing.proofs.Ranges.{good_frame, recovered_in_range}
use Rattle.domain_bringing.proofs.bringing.frame_of.Goals as goal

no_bool : false ≡ true → ⊥
no_bool is = cc

pub returns-then-is_in_range-clause-good : goal.returns-then-is_in_range-clause-good
returns-then-is_in_range-clause-good c = good_frame c.args.redone.now.anchor c.in-Some.version c.requires (sym c.in-Some.ensures.value) (c.is_in_range.ensures.0 c.if-is_in_range.true)

pub returns-else-is_in_range-clause-whole : goal.returns-else-is_in_range-clause-whole
returns-else-is_in_range-clause-whole c = λ sizes image groups has.
    absurd (recovered_in_range c.in-Some.version c.args.redone.now (sym c.in-Some.ensures.value) (λ range. no_bool (sym c.if-is_in_range.false ∙ c.is_in_range.ensures.1 range)) sizes image groups has)

pub returns-else-is_in_range-clause-wrong : goal.returns-else-is_in_range-clause-wrong
returns-else-is_in_range-clause-wrong c = λ disk.
    never_wrong disk c.args.redone.now c.bad_anchor.result
    (λ groups has. recovered_in_range c.in-Some.version c.args.redone.now (sym c.in-Some.ensures.value) (λ range. no_bool (sym c.if-is_in_range.false ∙ c.is_in_range.ensures.1 range)) disk.sizes disk.now.contents groups has)
