use Rattle.std.proofs.Common.{◌+◌, sym, subst}
use Rattle.directory_rows.specs.directory_pages.Entries.{Rise}
use Rattle.directory_tables.proofs.Rising.{AreLow, low_more, rise_more}
use Rattle.directory_tables.proofs.index_steps.rising.Goals as goal

pub loop-hash-preserved : goal.loop-hash-preserved
loop-hash-preserved c =
    let hash = c.loop-hash.hash in
    let entries = c.loop-hash.entries.items in
    record {
      rise = subst Rise (sym c.in_ok-push.ensures.items) (rise_more entries hash c.loop-hash.invariant.rise c.loop-hash.invariant.low);
      low = subst (AreLow (hash + 1)) (sym c.in_ok-push.ensures.items) (low_more entries hash c.loop-hash.invariant.low);
    }
