use Rattle.std.proofs.Common.{◌∙◌, arith, subst, sym}
use Rattle.std.proofs.lemmas.Bool.{true≢false}
use Rattle.fileset_table.specs.Table.{AreTogether}
use Rattle.fileset_table.proofs.ReadSlots.{slots_allowed}
use Rattle.fileset_table.proofs.Unique.{slots_unique}
use Rattle.fileset_table.proofs.reading.read_table.Goals as goal

pub returns-then-not-are_slots : goal.returns-then-not-are_slots
returns-then-not-are_slots c =
    λ x is.
    let same = slots_unique c.args.bytes.now x.slots c.in_ok-slots.slots.items is.slots c.in_ok-slots.ensures in
    true≢false (sym (c.are_slots.ensures.1 (subst AreTogether (same ∙ sym c.deref.ensures.value) is.good.together)) ∙ c.if-not-are_slots.true)

pub returns : goal.returns
returns c = record {
  header = c.has_header.ensures.0 c.if-not-has_header.false;
  made = sym c.u64_at-made.ensures;
  slots = c.in_ok-slots.ensures;
  good = record {
    whole = c.in_ok-slots.ensures.whole;
    allowed = slots_allowed c.args.bytes.now c.in_ok-slots.slots.items c.in_ok-slots.ensures;
    together = subst AreTogether c.deref.ensures.value (c.are_slots.ensures.0 c.if-not-are_slots.false);
    count = omega arith;
  };
}
