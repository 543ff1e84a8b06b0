use Rattle.std.proofs.Common.{◌+◌, ◌-◌, ◌≤◌, length, arith}
use Rattle.file_release.proofs.Gapless.{gap_below, goes_on_down, none_before, run_of}
use Rattle.file_release.proofs.tail.begin_of_gapless.Goals as goal
use Rattle.file_release.proofs.tail.begin_of_gapless.Goals.{then-begin-from-via-then-begin-from, then-begin-from-via-else-begin-from+then-run-begin}

pub overflow_add-run : goal.overflow_add-run
overflow_add-run c =
    let n = c.loop-i.i in
    let some : 1 ≤ n = omega (arith, c.loop-i-test.true) in
    let within : n ≤ length c.args.runs.now = omega (arith, c.loop-i.auto.i, c.count_before-i.ensures.within) in
    let run = run_of c.args.runs.now c.requires n c.index-runs-i.result some within c.index-runs-i.is in
    omega (arith, run.ends)

pub returns-then-begin-from-clause-absent : goal.returns-then-begin-from-clause-absent
returns-then-begin-from-clause-absent c = λ less.
    let n = c.loop-i.i in
    let some : 1 ≤ n = omega (arith, c.loop-i-test.true) in
    let within : n ≤ length c.args.runs.now = omega (arith, c.loop-i.auto.i, c.count_before-i.ensures.within) in
    elim c.then-begin-from.branch [
      | then-begin-from-via-then-begin-from w ↦ absurd (omega (arith, less, w.if-begin-from.true))
      | then-begin-from-via-else-begin-from+then-run-begin w ↦ gap_below c.args.runs.now c.requires n c.index-runs-i.result some within c.index-runs-i.is c.loop-i.begin c.args.to c.loop-i.invariant w.if-run-begin.true
    ]

pub loop-i-preserved : goal.loop-i-preserved
loop-i-preserved c =
    let n = c.loop-i.i in
    let some : 1 ≤ n = omega (arith, c.loop-i-test.true) in
    let within : n ≤ c.count_before-i.result = omega (arith, c.loop-i.auto.i) in
    goes_on_down c.args.runs.now c.requires n c.index-runs-i.result some (omega (arith, within, c.count_before-i.ensures.within)) c.index-runs-i.is c.loop-i.begin c.args.to c.loop-i.invariant
    c.count_before-i.result within c.count_before-i.ensures.within c.count_before-i.ensures.front (omega (arith, c.if-run-begin.false))

pub returns-clause-absent : goal.returns-clause-absent
returns-clause-absent c = λ less. none_before c.args.runs.now c.loop-i.i c.loop-i.begin c.args.to (omega (arith, less)) (omega (arith, c.loop-i-test.false)) c.loop-i.invariant
