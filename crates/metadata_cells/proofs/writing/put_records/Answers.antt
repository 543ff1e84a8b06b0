use Rattle.cell_records.specs.declared.record.Record.TheVariants.{Attributes}
use Rattle.metadata_cells.proofs.Written.{counted_on, place_for_one, puts_one}
use Rattle.metadata_cells.proofs.writing.put_records.Goals as goal

pub put_record-at-requires-clause-room : goal.put_record-at-requires-clause-room
put_record-at-requires-clause-room c =
    place_for_one c.args.records.now c.loop-value.value-index (Attributes 0 0 0 0 0 0 0 0 0) c.loop-value-test.true c.args.out.now c.loop-value.out c.loop-value.at c.loop-value.invariant.counted c.loop-value.invariant.written c.requires.room

pub loop-value-preserved : goal.loop-value-preserved
loop-value-preserved c = record {
  counted = counted_on c.args.records.now c.loop-value.value-index (Attributes 0 0 0 0 0 0 0 0 0) c.loop-value-test.true c.loop-value.at c.put_record-at.result c.loop-value.invariant.counted c.put_record-at.ensures.size;
  written = puts_one c.args.records.now c.loop-value.value-index (Attributes 0 0 0 0 0 0 0 0 0) c.loop-value-test.true c.args.out.now c.loop-value.out c.loop-value.at c.loop-value.invariant.counted
      c.loop-value.invariant.written c.requires.room c.put_record-at.new.out c.put_record-at.result c.put_record-at.ensures.size c.put_record-at.ensures.written;
}
