use Rattle.std.proofs.Common.{length, sym, ap, arith, length-drop}
use Rattle.cell_records.proofs.Scan.{rest_is, loop-short, loop-refused, loop-on, loop-done}
use Rattle.cell_records.proofs.reading.scan_fields.Goals as goal

pub returns-then-rest-width : goal.returns-then-rest-width
returns-then-rest-width c =
    loop-short c.args.widths.now c.args.rules.now c.loop-i.i c.loop-i.seen c.args.bytes.now c.loop-i.at c.from-width.result _ c.loop-i-test.true c.requires.same c.from-width.ensures c.if-rest-width.true c.loop-i.invariant.same

pub returns-then-not-allows : goal.returns-then-not-allows
returns-then-not-allows c =
    loop-refused c.args.widths.now c.args.rules.now c.loop-i.i c.loop-i.seen c.args.bytes.now c.loop-i.at c.from-width.result c.read_uint-number.result _ c.loop-i-test.true c.requires.same c.from-width.ensures c.if-rest-width.false c.read_uint-number.ensures (sym c.if-not-allows.ensures) c.loop-i.invariant.same

pub loop-i-preserved : goal.loop-i-preserved
loop-i-preserved c =
    let next = loop-on c.args.widths.now c.args.rules.now c.loop-i.i c.loop-i.seen c.args.bytes.now c.loop-i.at c.from-width.result c.read_uint-number.result _ c.loop-i-test.true c.requires.same c.from-width.ensures c.if-rest-width.false c.read_uint-number.ensures (sym c.if-not-allows.ensures) c.loop-i.invariant.same in
    record {
      inside = omega (arith, ap length (rest_is c.loop-i.at c.args.bytes.now), length-drop c.loop-i.at c.args.bytes.now, c.if-rest-width.false, c.loop-i.invariant.inside);
      same = rw c.after-seen.ensures next;
    }

pub returns : goal.returns
returns c = loop-done c.args.widths.now c.args.rules.now c.loop-i.i c.loop-i.seen _ c.loop-i.at _ c.loop-i-test.false c.loop-i.invariant.same
