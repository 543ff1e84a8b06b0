use Rattle.std.proofs.Common.{◌∙◌, false, true, ◌≡◌, sym}
use Rattle.slot_files.proofs.SaidSizes.{lost_by, lost_none}
use Rattle.slot_files.proofs.sizes.is_lost.Goals as goal

no_bool : {P : Type 0} → false ≡ true → P
no_bool is = absurd (cc)

pub returns-then-has_home : goal.returns-then-has_home
returns-then-has_home c = ((λ so. no_bool so), (λ lost. absurd (lost_none c.args.places.now c.args.homes.now c.args.page (c.has_home.ensures.0 c.if-has_home.true) lost)))

pub returns : goal.returns
returns c = lost_by c.args.places.now c.args.homes.now c.args.page (λ some. no_bool (sym c.if-has_home.false ∙ c.has_home.ensures.1 some)) c.has_place.result c.has_place.ensures
