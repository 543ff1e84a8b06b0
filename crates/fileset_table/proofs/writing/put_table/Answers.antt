use Rattle.std.proofs.Common.{arith}
use Rattle.std.proofs.lemmas.Option.{slice_get_read}
use Rattle.std.proofs.Common.{length, refl}
use Rattle.fileset_table.proofs.Slots.{wrote_all, wrote_more}
use Rattle.fileset_table.proofs.writing.put_table.Goals as goal

pub loop-number-preserved : goal.loop-number-preserved
loop-number-preserved c =
    wrote_more c.args.slots.now c.args.made c.loop-number.number c.index-slots-number.result c.args.page.now c.loop-number.page c.put_slot.new.page c.loop-number.invariant c.put_slot.ensures
    (slice_get_read c.args.slots.now (length c.args.slots.now) c.loop-number.number c.index-slots-number.result refl c.loop-number-test.true c.index-slots-number.is)

pub loop-number-init : goal.loop-number-init
loop-number-init c = record {
  header = c.put_header.ensures.header;
  count = c.put_header.ensures.made;
  wrote = λ k less. absurd (omega (arith, less));
  rest = c.put_header.ensures.rest;
}

pub returns-clause-slots : goal.returns-clause-slots
returns-clause-slots c = wrote_all c.args.slots.now c.args.made c.loop-number.number c.args.page.now c.loop-number.page c.loop-number.invariant c.requires.whole c.loop-number-test.false
