use Rattle.std.proofs.Common.{◌≡◌, ◌∙◌, arith, sym, subst}
use Rattle.std.proofs.Math.Logic.{∥∥₁_map}
use Rattle.domain_changes.specs.domain_memory.Going.{NothingGoes}
use Rattle.release_changes.proofs.Freed.{back_freed, nothing_more}
use Rattle.release_changes.proofs.releasing.drain.Goals as goal

pub release-requires-clause-stands : goal.release-requires-clause-stands
release-requires-clause-stands c = ∥∥₁_map c.requires.stands (λ s. (s.0, c.loop.invariant.stands s.0 s.1))

pub returns-in_err-count-clause-stands : goal.returns-in_err-count-clause-stands
returns-in_err-count-clause-stands c = λ all stood. c.release.ensures.stands all (c.loop.invariant.stands all stood)

pub loop-preserved : goal.loop-preserved
loop-preserved c = record {
  stands = λ all stood. c.release.ensures.stands all (c.loop.invariant.stands all stood);
  held = omega (arith, c.release.ensures.held, c.loop.invariant.held);
  settled = c.release.ensures.settled;
  back = c.release.ensures.back;
  frame = c.release.ensures.frame ∙ c.loop.invariant.frame;
}

pub returns-then-count-eq0-clause-stands : goal.returns-then-count-eq0-clause-stands
returns-then-count-eq0-clause-stands c = λ all stood. c.tell_drained.ensures.stands all (c.release.ensures.stands all (c.loop.invariant.stands all stood))

pub returns-then-count-eq0-clause-ends : goal.returns-then-count-eq0-clause-ends
returns-then-count-eq0-clause-ends c =
    let zero : c.in_ok-count.count ≡ 0 = omega (arith, c.if-count-eq0.true) in
    nothing_more c.release.new.memory c.tell_drained.new.memory c.tell_drained.ensures.same
    (subst NothingGoes (sym (c.in_ok-count.ensures.none zero)) (c.in_ok-count.ensures.some.0 zero))

pub returns-then-count-eq0-clause-back : goal.returns-then-count-eq0-clause-back
returns-then-count-eq0-clause-back c = back_freed c.release.new.memory c.tell_drained.new.memory c.tell_drained.ensures.same c.release.ensures.back
