use Rattle.std.proofs.Common.{ap, arith, length, length-append}
use Rattle.directory_rows.specs.Directory.{row_pages, rows_at}
use Rattle.directory_rows.specs.Steps.{entries_for}
use Rattle.directory_rows.proofs.Gathered.{entries_all, entries_long, entries_on}
use Rattle.directory_rows.proofs.Parts.{count_is, rows_at_few}
use Rattle.directory_rows.proofs.index.gather_entries.Goals as goal

pub loop-number-preserved : goal.loop-number-preserved
loop-number-preserved g c =
    let pages = row_pages (g.S.BitfileSet.files c.args.set.now) c.args.dir in
    let k = c.loop-number.number in
    record {
      below = entries_on pages k c.loop-number.entries.items c.push_entries.new.entries.items c.loop-number.invariant.below c.in_ok-push_entries.ensures;
      few = omega (arith, ap length c.in_ok-push_entries.ensures, length-append c.loop-number.entries.items (entries_for k (rows_at k pages)), entries_long k (rows_at k pages), rows_at_few pages k c.requires, c.loop-number.invariant.few);
    }

pub returns-clause-exact : goal.returns-clause-exact
returns-clause-exact g c =
    let files = g.S.BitfileSet.files c.args.set.now in
    entries_all (row_pages files c.args.dir) c.loop-number.number c.loop-number.entries.items (omega (arith, count_is files c.args.dir)) c.loop-number.invariant.below
