use Rattle.std.proofs.Common.{◌-◌, ◌*◌, ◌≤◌, length, refl, take, drop, arith}
use Rattle.directory_pages.proofs.Sets.{built_more}
use Rattle.directory_pages.proofs.change.build.Goals as goal

pub loop-number-preserved : goal.loop-number-preserved
loop-number-preserved g c =
    let list = c.args.entries.now in
    let number = c.loop-number.number in
    let from = 1022 * number in
    let old = g.S.BitfileSet.files c.args.set.now in
    let mid = g.S.BitfileSet.files c.loop-number.set in
    let new = g.S.BitfileSet.files c.put_part.new.set in
    let within : from ≤ length list = omega (arith, c.max-pages.ensures, c.div_ceil.ensures, c.loop-number-test.true) in
    record {
      built = built_more c.args.dir list (take (c.min-end.result - from) (drop from list)) number from c.min-end.result old mid new c.requires.directory c.loop-number.invariant.built c.in_ok-put_part.ensures.ok refl within c.min-end.ensures refl;
      count = omega (arith, c.loop-number.invariant.count, c.in_ok-put_part.ensures.count);
      changes = omega (arith, c.loop-number.invariant.changes, c.in_ok-put_part.ensures.changes);
      rest = g.met.S.BitfileSet.rest_joins c.args.set.now c.loop-number.set c.put_part.new.set c.loop-number.invariant.rest c.in_ok-put_part.ensures.rest;
    }

pub returns-in_err-put_part-clause-rest : goal.returns-in_err-put_part-clause-rest
returns-in_err-put_part-clause-rest g c = g.met.S.BitfileSet.rest_joins c.args.set.now c.loop-number.set c.put_part.new.set c.loop-number.invariant.rest c.put_part.ensures.rest
