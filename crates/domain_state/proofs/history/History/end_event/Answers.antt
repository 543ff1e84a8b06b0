use Rattle.std.proofs.Common.{◌≡◌, ◌∙◌, true, false, List, ap, arith, length, subst, sym}
use Rattle.no_faults.specs.fileset_values.declared.entry.Entry.{Entry}
use Rattle.domain_state.specs.History.{AreStamped, NonePanicked, with_last_stamped}
use Rattle.domain_state.proofs.Calm.{stamped_calm}
use Rattle.domain_state.proofs.Stamping.{all_stamped, length_stamped}
use Rattle.domain_state.proofs.history.History.end_event.Goals as goal

pub invariant_of-self : goal.invariant_of-self
invariant_of-self g c =
    let it = c.args.self.now in
    let calls = (g.R.Rack.disk it.rack).calls in
    let old = it.entries.items in
    let is : c.stamp_last.new.entries.items ≡ with_last_stamped calls old =
    c.stamp_last.ensures.items ∙ ap (λ n. with_last_stamped n old) c.calls.ensures in
    let held : AreStamped true calls old = subst (λ b. AreStamped b calls old) c.if-self.true it.stamps in
    record {
      calm = subst NonePanicked (sym is) (stamped_calm calls old it.calm);
      lasts = omega (arith, it.lasts, ap (λ (l : List Entry). length l) is, length_stamped calls old);
      stamps = subst (AreStamped false calls) (sym is) (all_stamped calls old held);
    }

pub returns-then-self-clause-room : goal.returns-then-self-clause-room
returns-then-self-clause-room g c =
    let old = c.args.self.now.entries.items in
    omega (arith, c.stamp_last.ensures.room, ap (λ (l : List Entry). length l) c.stamp_last.ensures.items, length_stamped c.calls.result old)
