use Rattle.std.proofs.Common.{◌<◌, subst}
use Rattle.domain_state.proofs.Tightness.{lacks}
use Rattle.domain_state.proofs.laws.want_of_pages_is_bounded.Goals as goal

pub returns : goal.returns
returns c = λ pages frame sizes memory entries job all free need held short.
    lacks pages frame sizes memory entries job short.settled short.none_waits held all need (subst (λ n. n < need) short.is_free short.few)
