use Rattle.std.proofs.Common.{set, ap, ◌∙◌, length-set}
use Rattle.extent_records.specs.Writing.{hole_of, no_hole}
use Rattle.extent_records.proofs.WritingLemmas.{filled_more}
use Rattle.extent_records.proofs.writing.hole_rows.Goals as goal

pub loop-i-preserved : goal.loop-i-preserved
loop-i-preserved g c = record {
  full = rw length-set c.loop-i.invariant.full;
  read =
      let run = c.index-runs-i.result in
      ap (set c.loop-i.rows c.loop-i.i) (c.hole_row.ensures ∙ ap hole_of c.index-runs-i.is)
      ∙ filled_more hole_of no_hole g.row.N c.loop-i.i c.args.runs.now run c.loop-i.rows c.loop-i-test.true c.requires c.loop-i.invariant.read;
}
