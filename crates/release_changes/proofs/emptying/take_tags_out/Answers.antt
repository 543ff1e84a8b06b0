use Rattle.std.proofs.Common.{◌∙◌, arith, refl}
use Rattle.std.proofs.Math.Logic.{∥∥₁_map}
use Rattle.domain_changes.proofs.OfDomainMemory.KeptStands.{kept_joined, none_kept}
use Rattle.release_changes.proofs.Emptied.{fewer_more}
use Rattle.release_changes.proofs.emptying.take_tags_out.Goals as goal

pub used_tag-requires-clause-ready : goal.used_tag-requires-clause-ready
used_tag-requires-clause-ready c = ∥∥₁_map c.requires.ready (λ r. (r.0, c.loop-count.invariant.ok r.0 r.1))

pub take_tag_out-requires-clause-ready : goal.take_tag_out-requires-clause-ready
take_tag_out-requires-clause-ready c = ∥∥₁_map c.requires.ready (λ r. (r.0, c.loop-count.invariant.ok r.0 r.1))

pub loop-count-preserved : goal.loop-count-preserved
loop-count-preserved c = record {
  ok = λ all may. c.in_ok-take_tag_out.ensures.ok all (c.loop-count.invariant.ok all may);
  same = λ none. absurd (omega (arith, none));
  fewer = λ some. fewer_more c.args.number c.loop-count.count c.args.memory.now c.loop-count.memory c.take_tag_out.new.memory c.loop-count.invariant.same c.loop-count.invariant.fewer c.in_ok-take_tag_out.ensures.fewer;
  held = omega (arith, c.loop-count.invariant.held, c.in_ok-take_tag_out.ensures.held);
  kept = kept_joined c.args.memory.now c.loop-count.memory c.take_tag_out.new.memory c.loop-count.invariant.kept c.in_ok-take_tag_out.ensures.kept;
  back = c.in_ok-take_tag_out.ensures.back;
  table = c.in_ok-take_tag_out.ensures.table ∙ c.loop-count.invariant.table;
  frame = c.in_ok-take_tag_out.ensures.frame ∙ c.loop-count.invariant.frame;
}

pub loop-count-init : goal.loop-count-init
loop-count-init c = record {
  ok = λ all may. may;
  same = λ none. refl;
  fewer = λ some. absurd (some refl);
  held = omega arith;
  kept = none_kept c.args.memory.now;
  back = c.requires.back;
  table = refl;
  frame = refl;
}

pub returns-clause-fewer : goal.returns-clause-fewer
returns-clause-fewer c = λ some. c.loop-count.invariant.fewer (λ none. omega (arith, none, c.loop-count.auto.count-end, c.loop-count-test.false))

pub returns-in_err-take_tag_out-clause-kept : goal.returns-in_err-take_tag_out-clause-kept
returns-in_err-take_tag_out-clause-kept c =
    kept_joined c.args.memory.now c.loop-count.memory c.take_tag_out.new.memory c.loop-count.invariant.kept c.take_tag_out.ensures.kept
