use Rattle.std.proofs.Common.{◌++◌, ◌∷◌, [], List, Option, refl, sym, ap, subst}
use Rattle.no_faults.specs.fileset_values.declared.command.Command.{Command}
use Rattle.no_faults.specs.fileset_values.declared.entry.Entry.{Entry}
use Rattle.domain_state.specs.History.{GoesOn}
use Rattle.domain_state.proofs.Committing.{unchanged}
use Rattle.domain_state.proofs.Resting.{rests_still}
use Rattle.domain_state.proofs.domain.Domain.commit_unchanged.Goals as goal

pub invariant_of-self : goal.invariant_of-self
invariant_of-self g c =
    let o = g.O.Opening in
    let it = c.args.self.now in
    record {
      stands =
          subst (λ (entries : List Entry). ∥ GoesOn o.pages o.frame o.sizes it.memory entries c.add.new.self.job ∥₁) (sym c.add.ensures.entries)
          (subst (λ (job : Option Command). ∥ GoesOn o.pages o.frame o.sizes it.memory (it.history.entries.items ++ c.args.entry ∷ []) job ∥₁) (sym c.add.ensures.job)
          (unchanged o.pages o.frame o.sizes it.memory it.history.entries.items it.history.job c.args.entry it.stands c.requires.step));
      back = it.back;
      rest = rests_still (g.R.Rack.disk it.history.rack) (g.R.Rack.disk c.add.new.self.rack) it.memory.frame.anchor it.memory.frame.anchor (ap g.R.Rack.disk c.add.ensures.rack) refl it.rest;
    }
