use Rattle.std.proofs.Common.{◌≡◌, ℕ, None, Some}
use Rattle.domain_state.proofs.domain.Domain.panicked.Goals as goal

none_some : (volume : ℕ) → ¬ None ≡ Some volume
none_some volume e = cc

pub returns-clause-told : goal.returns-clause-told
returns-clause-told g c = λ volume there. absurd (c.args.self.now.history.calm volume there)

pub returns-clause-cause : goal.returns-clause-cause
returns-clause-cause g c = λ volume is. absurd (none_some volume is)
