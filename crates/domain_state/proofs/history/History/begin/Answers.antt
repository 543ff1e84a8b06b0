use Rattle.std.proofs.Common.{false, sym, subst, arith}
use Rattle.domain_state.specs.History.{AreStamped, NonePanicked}
use Rattle.domain_state.proofs.Calm.{none_yet_panicked}
use Rattle.domain_state.proofs.history.History.begin.Goals as goal

pub invariant_of-result : goal.invariant_of-result
invariant_of-result g c = record {
  lasts = omega arith;
  calm = subst NonePanicked (sym c.new.ensures.items) none_yet_panicked;
  stamps = subst (AreStamped false (g.R.Rack.disk c.args.rack).calls) (sym c.new.ensures.items) (λ k e low. absurd (omega (arith, low)));
}
