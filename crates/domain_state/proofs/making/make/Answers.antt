use Rattle.std.proofs.Common.{◌∙◌, sym, ap, subst}
use Rattle.std.specs.FinMap.{empty}
use Rattle.no_faults.specs.domain_layout.Reached.{Frame}
use Rattle.no_faults.specs.domain_making.Making.{IsMade, IsOnFirst, pages_in_use}
use Rattle.no_faults.proofs.OfVolumeDisk.Laws.{touches-none}
use Rattle.domain_state.proofs.Resting.{made_rests}
use Rattle.domain_state.proofs.Unmoved.{none_yet}
use Rattle.domain_state.proofs.making.make.Goals as goal

pub returns-in-Err-new_memory-clause-any_moment_of_fault : goal.returns-in-Err-new_memory-clause-any_moment_of_fault
returns-in-Err-new_memory-clause-any_moment_of_fault g c = λ told ready.
    let disk = g.R.Rack.disk c.args.rack in
    none_yet c.args.version (pages_in_use c.args.version disk.sizes) disk ready

pub invariant_of-result : goal.invariant_of-result
invariant_of-result g c = record {
  stands = ∣ (empty, c.in-Ok-new_memory.ensures.stands) ∣₁;
  settled = ∣ c.in-Ok-new_memory.ensures.settled ∣₁;
  back = ∣ c.in-Ok-new_memory.ensures.back ∣₁;
  rest = ∣ made_rests c.args.version (g.R.Rack.disk c.args.rack) (g.R.Rack.disk c.write.new.rack) c.in-Ok-new_memory.memory.frame.anchor c.requires.there c.in-Ok.ensures.large c.write.ensures.touches.sizes c.write.ensures.touches.told
      (ap (λ (f : Frame). f.anchor) c.in-Ok-new_memory.ensures.frame)
      (λ tells. subst (IsMade (g.R.Rack.disk c.write.new.rack)) (c.in-Ok-write.ensures.anchor ∙ sym (ap (λ (f : Frame). f.anchor) c.in-Ok-new_memory.ensures.frame)) (c.in-Ok-write.ensures.made tells)) ∣₁;
}

pub returns-in-Err-clause-touches_at_fault : goal.returns-in-Err-clause-touches_at_fault
returns-in-Err-clause-touches_at_fault g c = touches-none (g.R.Rack.disk c.args.rack) IsOnFirst

pub returns-in-Err-new_memory-clause-touches_at_fault : goal.returns-in-Err-new_memory-clause-touches_at_fault
returns-in-Err-new_memory-clause-touches_at_fault g c = touches-none (g.R.Rack.disk c.args.rack) IsOnFirst
