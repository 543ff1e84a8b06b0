use Rattle.domain_attaching.proofs.Beside.{stands_with}
use Rattle.domain_attaching.proofs.standing.a_domain_stands_with_another_anchor.Goals as goal

pub returns : goal.returns
returns c = λ d frame all same. stands_with d frame same all
