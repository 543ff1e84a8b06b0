use Rattle.std.proofs.Common.{◌≡◌, ◌+◌, ◌<◌, ◌≤◌, ℕ, subst, arith}
use Rattle.attached_domain.specs.domain_standing.Domain.{layout_of}
use Rattle.attached_domain.specs.domain_layout.Layout.{Layout}
use Rattle.attached_domain.specs.domain_memory.Staged.{staged_in}
use Rattle.domain_attaching.specs.Tables.{HasTablesOn}
use Rattle.domain_attaching.proofs.TablesMarked.{marks_still, one_volume_more, tables_marked}
use Rattle.domain_attaching.proofs.tables.TablePages.mark.Goals as goal

pub mark_on-requires : goal.mark_on-requires
mark_on-requires c =
    let number = c.in-Some.ensures.value in
    let low = c.loop-number.invariant.low in
    let high = c.loop-number-test.true in
    c.loop-number.invariant.all c.in-Some.vol (omega (arith, number, low)) (omega (arith, number, high))

pub loop-number-init : goal.loop-number-init
loop-number-init c = record {
  low = omega arith;
  all = c.requires;
  marked = λ vol first below. absurd (omega (arith, first, below));
}

pub loop-number-preserved : goal.loop-number-preserved
loop-number-preserved c =
    let layout : Layout = layout_of (staged_in c.args.memory.now) in
    let old = c.loop-number.self in
    let new = c.mark_on.new.self in
    let so = c.loop-number.invariant in
    let vol = c.in-Some.vol in
    let is : vol ≡ c.loop-number.number = let number = c.in-Some.ensures.value in omega (arith, number) in
    let low = so.low in
    let first : 1 ≤ vol = omega (arith, is, low) in
    record {
      low = omega (arith, low);
      all = marks_still layout old new vol first c.mark_on.ensures.others so.all c.mark_on.ensures.here;
      marked =
          subst (λ (n : ℕ). (v : ℕ) → 1 ≤ v → v < n + 1 → HasTablesOn layout new v) is
          (one_volume_more layout old new vol first c.mark_on.ensures.others (λ v from below. so.marked v from (omega (arith, below, is))) c.mark_on.ensures.tables);
    }

pub returns : goal.returns
returns c =
    let past = c.loop-number-test.false in
    tables_marked (layout_of (staged_in c.args.memory.now)) c.loop-number.self c.loop-number.invariant.all (λ vol first last. c.loop-number.invariant.marked vol first (omega (arith, last, past)))
