use Rattle.std.proofs.Common.{true, List, length, sym, ap, subst, arith}
use Rattle.std.proofs.lemmas.List.{length_push}
use Rattle.no_faults.specs.fileset_values.declared.entry.Entry.{Entry}
use Rattle.domain_state.specs.History.{AreStamped, NonePanicked}
use Rattle.domain_state.proofs.Calm.{added_calm}
use Rattle.domain_state.proofs.Stamping.{added_stamped}
use Rattle.domain_state.proofs.history.History.add.Goals as goal

pub invariant_of-self : goal.invariant_of-self
invariant_of-self g c =
    let it = c.args.self.now in
    let calls = (g.R.Rack.disk it.rack).calls in
    record {
      calm = subst NonePanicked (sym c.push_reserved.ensures.items) (added_calm it.entries.items c.args.entry it.calm c.requires.calm);
      lasts = omega (arith, it.lasts, ap (λ (l : List Entry). length l) c.push_reserved.ensures.items, length_push it.entries.items c.args.entry);
      stamps = subst (AreStamped true calls) (sym c.push_reserved.ensures.items) (added_stamped calls it.entries.items c.args.entry (subst (λ b. AreStamped b calls it.entries.items) c.requires.first it.stamps));
    }
