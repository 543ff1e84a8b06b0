use Rattle.std.proofs.Common.{set, ap, ◌∙◌, length-set}
use Rattle.extent_records.specs.Writing.{extent_of, no_extent}
use Rattle.extent_records.proofs.WritingLemmas.{filled_more}
use Rattle.extent_records.proofs.writing.extent_rows.Goals as goal

pub loop-i-preserved : goal.loop-i-preserved
loop-i-preserved g c = record {
  full = rw length-set c.loop-i.invariant.full;
  read =
      let run = c.index-runs-i.result in
      ap (set c.loop-i.rows c.loop-i.i) (c.extent_row.ensures ∙ ap extent_of c.index-runs-i.is)
      ∙ filled_more extent_of no_extent g.row.N c.loop-i.i c.args.runs.now run c.loop-i.rows c.loop-i-test.true c.requires c.loop-i.invariant.read;
}
