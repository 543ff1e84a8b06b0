use Rattle.std.proofs.Common.{◌≡◌, ◌+◌, sum_by, sym, subst, take, ap, arith}
use Rattle.std.proofs.lemmas.List.Sums.{sum_by_more, sum_by_more_le}
use Rattle.domain_memory.specs.extent_maps.Runs.{IsRun}
use Rattle.file_changes.specs.Counting.{count_in}
use Rattle.file_changes.proofs.Counted.{few_counted, run_in}
use Rattle.file_changes.proofs.counting.count_runs.Goals as goal

pub loop-run-preserved : goal.loop-run-preserved
loop-run-preserved c =
    let runs = c.args.runs.now in
    let k = c.loop-run.run-index in
    let run = c.run-item.result in
    let next = sum_by_more (count_in c.args.keep) runs k run c.loop-run-test.true in
    let is = ap (count_in c.args.keep) c.run-item.is in
    let so_far : c.loop-run.count ≡ sum_by (count_in c.args.keep) (take k runs) = c.loop-run.invariant in
    let last = c.count_in-count.ensures in
    let all : c.loop-run.count + c.count_in-count.result ≡ sum_by (count_in c.args.keep) (take (k + 1) runs) = omega (arith, next, is, so_far, last) in
    all

pub count_in-count-requires : goal.count_in-count-requires
count_in-count-requires c = subst IsRun (sym c.run-item.is) (run_in c.args.runs.now c.loop-run.run-index c.run-item.result c.requires c.loop-run-test.true)

pub overflow_add-count : goal.overflow_add-count
overflow_add-count c =
    let runs = c.args.runs.now in
    let k = c.loop-run.run-index in
    let run = c.run-item.result in
    let within = sum_by_more_le (count_in c.args.keep) runs k run c.loop-run-test.true in
    let few = few_counted runs c.args.keep c.requires in
    let is = ap (count_in c.args.keep) c.run-item.is in
    let so_far : c.loop-run.count ≡ sum_by (count_in c.args.keep) (take k runs) = c.loop-run.invariant in
    let last = c.count_in-count.ensures in
    omega (arith, within, few, is, so_far, last)
