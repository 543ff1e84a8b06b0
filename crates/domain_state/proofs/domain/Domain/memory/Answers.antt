use Rattle.std.proofs.Math.Logic.{∥∥₁_map}
use Rattle.domain_state.proofs.domain.Domain.memory.Goals as goal

pub returns-clause-stands : goal.returns-clause-stands
returns-clause-stands g c = ∥∥₁_map c.args.self.now.stands (λ goes. (goes.all, goes.stands))
