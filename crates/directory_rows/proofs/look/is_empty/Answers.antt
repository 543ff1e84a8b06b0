use Rattle.std.proofs.Common.{length, ap, arith}
use Rattle.directory_rows.specs.Directory.{row_pages}
use Rattle.directory_rows.proofs.Parts.{none_more, rows_at_within}
use Rattle.directory_rows.proofs.look.is_empty.Goals as goal

pub returns-then-rows_on-ne0 : goal.returns-then-rows_on-ne0
returns-then-rows_on-ne0 g c =
    let pages = row_pages (g.S.BitfileSet.files c.args.set.now) c.args.dir in
    let k = c.loop-number.number in
    (λ always. absurd cc, λ none. absurd (omega (arith, c.if-rows_on-ne0.true, c.rows_on.ensures.count, rows_at_within pages k, ap length none)))

pub loop-number-preserved : goal.loop-number-preserved
loop-number-preserved g c =
    none_more (row_pages (g.S.BitfileSet.files c.args.set.now) c.args.dir) c.loop-number.number c.loop-number.invariant (omega (arith, c.rows_on.ensures.count, c.if-rows_on-ne0.false))
