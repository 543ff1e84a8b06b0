use Rattle.std.proofs.Common.{List, Option, refl, sym, ap, subst}
use Rattle.no_faults.specs.fileset_values.declared.command.Command.{Command}
use Rattle.no_faults.specs.fileset_values.declared.entry.Entry.{Entry}
use Rattle.domain_state.specs.History.{GoesOn}
use Rattle.domain_state.proofs.Resting.{rests_still}
use Rattle.domain_state.proofs.domain.Domain.reserve_history.Goals as goal

pub invariant_of-self : goal.invariant_of-self
invariant_of-self g c =
    let o = g.O.Opening in
    let it = c.args.self.now in
    record {
      stands = subst (λ (entries : List Entry). ∥ GoesOn o.pages o.frame o.sizes it.memory entries c.reserve.new.self.job ∥₁) (sym c.reserve.ensures.entries)
          (subst (λ (job : Option Command). ∥ GoesOn o.pages o.frame o.sizes it.memory it.history.entries.items job ∥₁) (sym c.reserve.ensures.job) it.stands);
      back = it.back;
      rest = rests_still (g.R.Rack.disk it.history.rack) (g.R.Rack.disk c.reserve.new.self.rack) it.memory.frame.anchor it.memory.frame.anchor (ap g.R.Rack.disk c.reserve.ensures.rack) refl it.rest;
    }
