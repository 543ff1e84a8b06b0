-- As many clones of 0 as asked for are as many zeros.
use Rattle.domain_base.specs.Page.{zero_bytes}
use Rattle.domain_base.proofs.page.Page.zeros.Goals as goal

pub returns-clause-value : goal.returns-clause-value
unfolding zero_bytes
returns-clause-value c = c.in_ok-content.ensures.items_if_clones_equal (λ y e. e)
