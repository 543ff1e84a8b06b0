use Rattle.std.proofs.Common.{[], refl, sym, ap, subst, List, Option}
use Rattle.no_faults.specs.fileset_values.declared.command.Command.{Command}
use Rattle.no_faults.specs.fileset_values.declared.entry.Entry.{Entry}
use Rattle.domain_state.specs.History.{GoesOn}
use Rattle.domain_state.proofs.Beginning.{begun}
use Rattle.domain_state.proofs.BegunWithin.{begun_within}
use Rattle.domain_state.proofs.Resting.{rests_still}
use Rattle.domain_state.proofs.domain.Domain.begin.Goals as goal

pub invariant_of-result : goal.invariant_of-result
invariant_of-result g c =
    let o = g.O.Opening in
    let it = c.begin.result in
    record {
      stands = subst (λ (entries : List Entry). ∥ GoesOn o.pages o.frame o.sizes c.args.attached.memory entries it.job ∥₁) (sym c.begin.ensures.entries)
          (subst (λ (job : Option Command). ∥ GoesOn o.pages o.frame o.sizes c.args.attached.memory [] job ∥₁) (sym c.begin.ensures.job)
          (begun c.args.attached.memory o.sizes o.pages o.frame c.requires.pages c.requires.frame (begun_within c.args.attached.memory o.sizes c.args.attached.settled c.misses.ensures.sound) c.args.attached.stands));
      back = c.args.attached.back;
      rest = rests_still (g.R.Rack.disk c.args.attached.rack) (g.R.Rack.disk it.rack) c.args.attached.memory.frame.anchor c.args.attached.memory.frame.anchor (ap g.R.Rack.disk c.begin.ensures.rack) refl c.args.attached.rest;
    }
