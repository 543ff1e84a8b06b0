use Rattle.std.proofs.Common.{◌≡◌, ◌+◌, ◌-◌, ◌<◌, ℕ, length, sym, subst, arith}
use Rattle.plain_program.specs.fileset_values.Orders.{Path}
use Rattle.name_space.specs.Walks.{IsClear, IsWayTo}
use Rattle.name_space.proofs.Walked.{clear_more, walk_clear, walk_refused}
use Rattle.name_space.proofs.walking.walk.Goals as goal

pub returns-in-Err : goal.returns-in-Err
returns-in-Err g c = λ slot names.
    walk_refused slot c.args.path.now 0 c.in-Err.refusal (omega (arith, c.requires.some)) (λ before lt. absurd (omega (arith, lt))) (c.in-Err.ensures slot names)

pub returns-in-Err-step : goal.returns-in-Err-step
returns-in-Err-step g c = λ slot names.
    let path = c.args.path.now in
    let count = c.loop-count.count in
    let low : count < length path - 1 = subst (λ (p : Path). count < length p - 1) c.as_slice.ensures c.loop-count-test.true in
    let clear = c.loop-count.invariant.1 slot names in
    walk_refused slot path (count + 1) c.in-Err-step.refusal (omega (arith, low)) (λ before lt. clear before (omega (arith, lt))) (c.in-Err-step.ensures slot names clear)

pub loop-count-preserved : goal.loop-count-preserved
loop-count-preserved g c =
    let path = c.args.path.now in
    let count = c.loop-count.count in
    let some = c.requires.names in (
      (c.in-Ok-step.ensures some.0 some.1 (c.loop-count.invariant.1 some.0 some.1)).1,
      λ slot names. clear_more slot path count (c.loop-count.invariant.1 slot names) (c.in-Ok-step.ensures slot names (c.loop-count.invariant.1 slot names)).0,
    )

pub returns : goal.returns
returns g c = λ slot names.
    let path = c.args.path.now in
    let count = c.loop-count.count in
    let high : length path - 1 ≡ count = subst (λ (p : Path). length p - 1 ≡ count) c.as_slice.ensures (omega (arith, c.loop-count-test.false, c.loop-count.auto.count-end)) in (
      walk_clear slot path c.requires.some (subst (λ (n : ℕ). IsClear slot path n) (sym high) (c.loop-count.invariant.1 slot names)),
      subst (λ (n : ℕ). IsWayTo (g.S.BitfileSet.files c.args.set.now) path n c.loop-count.dir) (sym high) c.loop-count.invariant.0,
    )
