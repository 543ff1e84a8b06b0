use Rattle.std.proofs.Common.{◌≡◌, ◌+◌, ◌-◌, ◌<◌, length, take, drop, sum, refl, rules, ap, ◌∙◌, arith, length-drop, length-take}
use Rattle.std.proofs.lemmas.List.{take_all}
use Rattle.cell_records.proofs.Spelling.{Fit-at, Fit-length, sum-take_le, sum-take_more, put-more}
use Rattle.cell_records.proofs.writing.put.Goals as goal

pub offset_bounds-numbers-i : goal.offset_bounds-numbers-i
offset_bounds-numbers-i c =
    let e = Fit-length c.args.widths.now c.args.numbers.now c.requires.fit in
    let lt : c.loop-i.i < length c.args.numbers.now = omega arith in
    search rules

pub bounds-numbers-i : goal.bounds-numbers-i
bounds-numbers-i c = omega (arith, Fit-length c.args.widths.now c.args.numbers.now c.requires.fit)

pub write_uint-requires-clause-low : goal.write_uint-requires-clause-low
write_uint-requires-clause-low c = let h = Fit-at c.args.widths.now c.args.numbers.now c.loop-i.i c.requires.fit (omega arith) in omega (arith, h.low)

pub write_uint-requires-clause-high : goal.write_uint-requires-clause-high
write_uint-requires-clause-high c = let h = Fit-at c.args.widths.now c.args.numbers.now c.loop-i.i c.requires.fit (omega arith) in omega (arith, h.high)

pub write_uint-requires-clause-room : goal.write_uint-requires-clause-room
write_uint-requires-clause-room c =
    omega (arith, length-take (length c.loop-i.out - c.loop-i.at) (drop c.loop-i.at c.loop-i.out), length-drop c.loop-i.at c.loop-i.out, sum-take_more c.args.widths.now c.loop-i.i c.loop-i-test.true, sum-take_le (c.loop-i.i + 1) c.args.widths.now, c.requires.room, c.loop-i.invariant.counted)

pub write_uint-requires-clause-fits : goal.write_uint-requires-clause-fits
write_uint-requires-clause-fits c =
    let h = Fit-at c.args.widths.now c.args.numbers.now c.loop-i.i c.requires.fit (omega arith) in
    rw c.from-width.ensures h.fits

pub loop-i-preserved : goal.loop-i-preserved
loop-i-preserved c =
    let lt : c.loop-i.i < length c.args.widths.now = c.loop-i-test.true in
    record {
      counted = omega (arith, sum-take_more c.args.widths.now c.loop-i.i lt, c.loop-i.invariant.counted, c.from-width.ensures);
      written = rw c.from-width.ensures (put-more c.args.widths.now c.args.numbers.now c.args.out.now c.loop-i.out c.write_uint.new.buf c.loop-i.at c.loop-i.i c.requires.fit lt c.requires.room c.loop-i.invariant.counted c.loop-i.invariant.written (c.write_uint.ensures ∙ rw c.from-width.ensures refl));
    }

pub returns : goal.returns
returns c =
    let same = Fit-length c.args.widths.now c.args.numbers.now c.requires.fit in
    let ws : take c.loop-i.i c.args.widths.now ≡ c.args.widths.now = take_all c.loop-i.i c.args.widths.now (omega arith) in
    let ns : take c.loop-i.i c.args.numbers.now ≡ c.args.numbers.now = take_all c.loop-i.i c.args.numbers.now (omega arith) in
    let end : c.loop-i.at ≡ sum c.args.widths.now = c.loop-i.invariant.counted ∙ ap sum ws in
    record { size = end; written = c.loop-i.invariant.written ∙ rw (ws, ns, end) refl }
