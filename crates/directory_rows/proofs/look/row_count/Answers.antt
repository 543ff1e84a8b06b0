use Rattle.std.proofs.Common.{length, take, ap, arith, length-append}
use Rattle.directory_rows.specs.Directory.{all_rows, row_pages, rows_at}
use Rattle.directory_rows.proofs.Parts.{rows_more}
use Rattle.directory_rows.proofs.look.row_count.Goals as goal

pub loop-number-preserved : goal.loop-number-preserved
loop-number-preserved g c =
    let pages = row_pages (g.S.BitfileSet.files c.args.set.now) c.args.dir in
    let k = c.loop-number.number in
    record {
      counted = omega (arith, ap length (rows_more pages k), length-append (all_rows (take k pages)) (rows_at k pages), c.loop-number.invariant.counted, c.rows_on-count.ensures.count);
      few = omega (arith, c.loop-number.invariant.few, c.rows_on-count.ensures.few);
    }
