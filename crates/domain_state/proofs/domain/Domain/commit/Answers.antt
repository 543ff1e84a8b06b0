use Rattle.std.proofs.Common.{◌++◌, ◌∷◌, [], List, Option, sym, ap, subst}
use Rattle.no_faults.specs.fileset_values.declared.command.Command.{Command}
use Rattle.no_faults.specs.fileset_values.declared.entry.Entry.{Entry}
use Rattle.no_faults.specs.page_ways.declared.frame.DomainFrame.{DomainFrame}
use Rattle.no_faults.proofs.OfDomainMemory.Held.{keeps_held}
use Rattle.domain_state.specs.History.{GoesOn}
use Rattle.domain_state.proofs.Committing.{committed, is_staged}
use Rattle.domain_state.proofs.Resting.{rests_still}
use Rattle.domain_state.proofs.domain.Domain.commit.Goals as goal

pub keep-requires-clause-staged : goal.keep-requires-clause-staged
keep-requires-clause-staged g c =
    let o = g.O.Opening in
    let it = c.args.self.now in
    is_staged o.pages o.frame o.sizes it.memory it.history.entries.items it.history.job c.args.entry it.stands c.requires.step

pub keep-requires-clause-back : goal.keep-requires-clause-back
keep-requires-clause-back g c = c.args.self.now.back

pub invariant_of-self : goal.invariant_of-self
invariant_of-self g c =
    let o = g.O.Opening in
    let it = c.args.self.now in
    let new = c.keep.new.self in
    record {
      stands =
          subst (λ (entries : List Entry). ∥ GoesOn o.pages o.frame o.sizes new entries c.add.new.self.job ∥₁) (sym c.add.ensures.entries)
          (subst (λ (job : Option Command). ∥ GoesOn o.pages o.frame o.sizes new (it.history.entries.items ++ c.args.entry ∷ []) job ∥₁) (sym c.add.ensures.job)
          (committed o.pages o.frame o.sizes it.memory it.history.entries.items it.history.job c.args.entry it.stands c.requires.step new c.keep.ensures.frame (keeps_held it.memory new c.keep.ensures.space) c.requires.few c.keep.ensures.stands));
      back = c.keep.ensures.back;
      rest = rests_still (g.R.Rack.disk it.history.rack) (g.R.Rack.disk c.add.new.self.rack) it.memory.frame.anchor new.frame.anchor (ap g.R.Rack.disk c.add.ensures.rack) (ap (λ (f : DomainFrame). f.anchor) c.keep.ensures.frame) it.rest;
    }
