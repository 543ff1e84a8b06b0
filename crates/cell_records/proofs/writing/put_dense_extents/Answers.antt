use Rattle.std.proofs.Common.{[], ◌∷◌, ◌+◌, ◌*◌, length, take, sum, ◌≡◌, refl, ◌∙◌, arith}
use Rattle.std.proofs.lemmas.List.{take_all}
use Rattle.cell_records.specs.Layouts.{repeated, dense_widths}
use Rattle.cell_records.specs.Records.{dense_numbers}
use Rattle.cell_records.proofs.Spelling.{rows-more, sum-repeated, sum-cons}
use Rattle.cell_records.proofs.writing.put_dense_extents.Goals as goal

pub loop-row-preserved : goal.loop-row-preserved
loop-row-preserved c = record {
  counted = omega (arith, c.loop-row.invariant.counted, c.put-at.ensures.size);
  written = rw c.put-at.ensures.size (rows-more dense_numbers dense_widths (1 ∷ 1 ∷ 2 ∷ []) (c.args.kind ∷ 0 ∷ (4 + 12 * length c.args.rows.now) ∷ []) c.args.rows.now (record { page = 0; count = 0; vol = 0; first = 0 }) c.args.out.now c.loop-row.out c.put-at.new.out c.loop-row.at c.loop-row.row-index (λ row. refl) refl c.loop-row-test.true (omega (arith, c.loop-row.invariant.counted, c.requires.room)) c.loop-row.invariant.counted c.loop-row.invariant.written (c.put-at.ensures.written ∙ rw c.numbers_of_dense.ensures.numbers refl));
}

pub returns : goal.returns
returns c =
    let ws = repeated (length c.args.rows.now) dense_widths in
    let all : c.loop-row.row-index ≡ length c.args.rows.now = omega arith in
    let taken : take c.loop-row.row-index c.args.rows.now ≡ c.args.rows.now = take_all c.loop-row.row-index c.args.rows.now (omega arith) in
    let ws = repeated (length c.args.rows.now) dense_widths in
    let size : c.loop-row.at ≡ sum (1 ∷ 1 ∷ 2 ∷ ws) = omega (arith, c.loop-row.invariant.counted, all, sum-repeated (length c.args.rows.now) dense_widths, sum-cons 1 (1 ∷ 2 ∷ ws), sum-cons 1 (2 ∷ ws), sum-cons 2 ws) in
    record { size = size; written = c.loop-row.invariant.written ∙ rw (taken, all, size) refl }
