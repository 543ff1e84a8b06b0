use Rattle.std.proofs.Common.{◌∙◌, false, true, ◌≡◌, refl, sym}
use Rattle.slot_files.proofs.SaidSizes.{gap_even, gap_odd}
use Rattle.slot_files.proofs.sizes.has_gap.Goals as goal

no_bool : {P : Type 0} → false ≡ true → P
no_bool is = absurd (cc)

pub returns-then-not-is_of_pages : goal.returns-then-not-is_of_pages
returns-then-not-is_of_pages c = ((λ so. gap_odd c.args.homes.now c.args.size (λ even. no_bool (sym c.if-not-is_of_pages.true ∙ c.is_of_pages.ensures.1 even))), (λ gap. refl))

pub returns : goal.returns
returns c = gap_even c.args.homes.now c.args.size (c.is_of_pages.ensures.0 c.if-not-is_of_pages.false) c.has_first.result c.has_first.ensures
