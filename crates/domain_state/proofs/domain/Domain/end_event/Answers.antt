use Rattle.std.proofs.Common.{List, Option, refl, sym, ap, subst, if◌then◌else◌}
use Rattle.no_faults.specs.fileset_values.declared.command.Command.{Command}
use Rattle.no_faults.specs.fileset_values.declared.entry.Entry.{Entry}
use Rattle.domain_state.specs.History.{GoesOn, with_last_stamped}
use Rattle.domain_state.proofs.Stamping.{event_ended}
use Rattle.domain_state.proofs.Resting.{rests_still}
use Rattle.domain_state.proofs.domain.Domain.end_event.Goals as goal

pub invariant_of-self : goal.invariant_of-self
invariant_of-self g c =
    let o = g.O.Opening in
    let it = c.args.self.now in
    let was = it.history.entries.items in
    let calls = (g.R.Rack.disk it.history.rack).calls in
    let now : List Entry = if it.history.added then with_last_stamped calls was else was in
    record {
      stands = subst (λ (entries : List Entry). ∥ GoesOn o.pages o.frame o.sizes it.memory entries c.end_event.new.self.job ∥₁) (sym c.end_event.ensures.entries)
          (subst (λ (job : Option Command). ∥ GoesOn o.pages o.frame o.sizes it.memory now job ∥₁) (sym c.end_event.ensures.job)
          (event_ended o.pages o.frame o.sizes it.memory it.history.job calls it.history.added was it.history.stamps it.stands));
      back = it.back;
      rest = rests_still (g.R.Rack.disk it.history.rack) (g.R.Rack.disk c.end_event.new.self.rack) it.memory.frame.anchor it.memory.frame.anchor (ap g.R.Rack.disk c.end_event.ensures.rack) refl it.rest;
    }
