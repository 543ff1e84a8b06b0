use Rattle.std.proofs.Common.{ℕ, Bool, false, sym, subst}
use Rattle.domain_state.specs.History.{AreStamped}
use Rattle.domain_state.proofs.domain.Domain.calls.Goals as goal

pub returns : goal.returns
returns g c = record {
  is = c.calls.ensures;
  stamps = λ rests.
      let it = c.args.self.now.history in
      let calls = (g.R.Rack.disk it.rack).calls in
      subst (λ (n : ℕ). AreStamped false n it.entries.items) (sym c.calls.ensures) (subst (λ (b : Bool). AreStamped b calls it.entries.items) rests it.stamps);
}
