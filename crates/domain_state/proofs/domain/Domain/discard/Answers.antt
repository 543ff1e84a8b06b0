use Rattle.std.proofs.Common.{refl, ap}
use Rattle.no_faults.specs.page_ways.declared.frame.DomainFrame.{DomainFrame}
use Rattle.domain_state.proofs.Committing.{discarded}
use Rattle.domain_state.proofs.Resting.{rests_still}
use Rattle.domain_state.proofs.domain.Domain.discard.Goals as goal

pub invariant_of-self : goal.invariant_of-self
invariant_of-self g c =
    let o = g.O.Opening in
    let it = c.args.self.now in
    record {
      stands = discarded o.pages o.frame o.sizes it.memory c.take_back.new.self it.history.entries.items it.history.job it.stands c.take_back.ensures.kept c.take_back.ensures.books;
      back = c.take_back.ensures.back;
      rest = rests_still (g.R.Rack.disk it.history.rack) (g.R.Rack.disk it.history.rack) it.memory.frame.anchor c.take_back.new.self.frame.anchor refl (ap (λ (f : DomainFrame). f.anchor) c.take_back.ensures.frame) it.rest;
    }
