use Rattle.std.proofs.Common.{List, sym, subst}
use Rattle.no_faults.specs.fileset_values.declared.entry.Entry.{Entry}
use Rattle.domain_state.specs.History.{AreStamped, NonePanicked}
use Rattle.domain_state.proofs.history.History.reserve.Goals as goal

pub invariant_of-self-clause-calm : goal.invariant_of-self-clause-calm
invariant_of-self-clause-calm g c = subst NonePanicked (sym c.reserve.ensures.items) c.args.self.now.calm

pub invariant_of-self-clause-stamps : goal.invariant_of-self-clause-stamps
invariant_of-self-clause-stamps g c =
    let it = c.args.self.now in
    subst (λ (entries : List Entry). AreStamped it.added (g.R.Rack.disk it.rack).calls entries) (sym c.reserve.ensures.items) it.stamps
