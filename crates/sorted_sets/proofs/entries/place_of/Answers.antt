use Rattle.std.proofs.Common.{◌+◌, ◌-◌, ◌/◌, ◌<◌, ◌≤◌, length, sym, arith}
use Rattle.sorted_sets.proofs.SearchLemmas.{between_lower, between_upper, found_between, gap_between}
use Rattle.sorted_sets.proofs.entries.place_of.Goals as goal

pub loop-low-preserved-in-Less : goal.loop-low-preserved-in-Less
loop-low-preserved-in-Less g c =
    let low = c.loop-low.low in
    let high = c.loop-low.high in
    let middle = low + (high - low) / 2 in
    let above : low ≤ middle = omega arith in
    let below : middle < high = omega (arith, c.loop-low-test.true) in
    between_lower g.met.K.Ord.total c.args.entries.now c.args.key.now c.requires low high middle c.index-entries-middle.result c.loop-low.invariant above below (sym c.in-Less.ensures)

pub loop-low-preserved : goal.loop-low-preserved
loop-low-preserved g c =
    let low = c.loop-low.low in
    let high = c.loop-low.high in
    let middle = low + (high - low) / 2 in
    let above : low ≤ middle = omega arith in
    let below : middle < high = omega (arith, c.loop-low-test.true) in
    between_upper g.met.K.Ord.total c.args.entries.now c.args.key.now c.requires low high middle c.index-entries-middle.result c.loop-low.invariant above below (sym c.in-Greater.ensures)

pub returns-in-Equal-clause-place : goal.returns-in-Equal-clause-place
returns-in-Equal-clause-place g c =
    let low = c.loop-low.low in
    let high = c.loop-low.high in
    let middle = low + (high - low) / 2 in
    let within : middle < length c.args.entries.now = omega (arith, c.loop-low-test.true, c.loop-low.invariant.within) in
    found_between g.met.K.Ord.total c.args.entries.now c.args.key.now c.requires middle c.index-entries-middle.result within (sym c.in-Equal.ensures)

pub returns-clause-gap : goal.returns-clause-gap
returns-clause-gap g c =
    let done : c.loop-low.high ≤ c.loop-low.low = omega (arith, c.loop-low-test.false) in
    gap_between g.met.K.Ord.total c.args.entries.now c.args.key.now c.requires c.loop-low.low c.loop-low.high c.loop-low.invariant done
