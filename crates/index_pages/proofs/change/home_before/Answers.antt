use Rattle.std.proofs.Common.{◌≡◌, ◌∙◌, ◌-◌, suc, ap, arith}
use Rattle.index_pages.specs.Changes.{home_in_front}
use Rattle.index_pages.proofs.change.home_before.Goals as goal

pub returns : goal.returns
returns g c =
    let is : suc (c.args.number - 1) ≡ c.args.number = omega (arith, c.if-number-eq0.false) in
    λ homes are. c.index_home.ensures homes are ∙ ap (λ n. home_in_front n homes) is
