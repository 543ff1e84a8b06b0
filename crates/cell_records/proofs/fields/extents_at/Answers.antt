use Rattle.std.proofs.Common.{◌≡◌, sym, refl, ◌∙◌, arith, length-set}
use Rattle.std.proofs.lemmas.List.{take_all}
use Rattle.cell_records.specs.Fields.{extent_at}
use Rattle.cell_records.proofs.Rows.{rows-set}
use Rattle.cell_records.proofs.fields.extents_at.Goals as goal

pub loop-i-preserved : goal.loop-i-preserved
loop-i-preserved g c = record {
  full = rw length-set c.loop-i.invariant.full;
  read = rows-set extent_at 16 c.loop-i.rows c.loop-i.i c.args.at c.args.bytes.now c.extent_at.result (omega (arith, c.loop-i.invariant.full)) c.loop-i.invariant.read c.extent_at.ensures;
}

pub returns : goal.returns
returns g c =
    let all : c.loop-i.i ≡ g.row.N = omega arith in
    sym (take_all c.loop-i.i c.loop-i.rows (omega (arith, c.loop-i.invariant.full))) ∙ c.loop-i.invariant.read ∙ rw all refl
