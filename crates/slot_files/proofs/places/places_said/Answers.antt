use Rattle.std.proofs.Common.{◌≡◌, ◌-◌, ◌<◌, length, suc, subst, arith}
use Rattle.slot_files.proofs.SaidPlaces.{HasRunsFrom, runs_begin, runs_end, runs_on}
use Rattle.slot_files.proofs.places.places_said.Goals as goal

pub loop-i-init : goal.loop-i-init
loop-i-init c = runs_begin c.args.runs.now c.end_of.result _ c.end_of.ensures c.in_ok-places.ensures.length c.in_ok-places.ensures.absent

pub loop-i-preserved : goal.loop-i-preserved
loop-i-preserved c =
    let runs = c.args.runs.now in
    let within : c.loop-i.i - 1 < length runs = omega arith in
    let next : c.loop-i.i ≡ suc (c.loop-i.i - 1) = omega arith in
    runs_on runs (c.loop-i.i - 1) _ c.loop-i.places.items c.put_run.new.places.items within (subst (λ k. HasRunsFrom runs k c.loop-i.places.items) next c.loop-i.invariant) c.put_run.ensures.length c.put_run.ensures.places

pub returns : goal.returns
returns c =
    let done : c.loop-i.i ≡ 0 = omega arith in
    runs_end c.args.runs.now c.loop-i.places.items (subst (λ k. HasRunsFrom c.args.runs.now k c.loop-i.places.items) done c.loop-i.invariant)
