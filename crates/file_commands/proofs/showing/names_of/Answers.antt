use Rattle.std.proofs.Common.{◌∙◌, slice_get, sym, ap, arith}
use Rattle.file_commands.proofs.Shown.{all_noted, none_noted, noted_more}
use Rattle.file_commands.proofs.showing.names_of.Goals as goal

pub loop-n-init : goal.loop-n-init
loop-n-init c = none_noted c.args.table.now.slots c.new-names.result c.new-names.ensures.empty

pub loop-n-preserved : goal.loop-n-preserved
loop-n-preserved c =
    noted_more c.args.table.now.slots c.loop-n.n c.slot.result.now c.loop-n.names c.note_name.new.names (ap (slice_get c.args.table.now.slots) (sym c.in-Some.ensures.value) ∙ c.slot.ensures.value) c.slot.ensures.good.whole
    c.in_ok-note_name.ensures c.loop-n.invariant

pub returns : goal.returns
returns c = all_noted c.args.table.now.slots c.loop-n.n c.loop-n.names c.loop-n.invariant (omega (arith, c.loop-n-test.false, c.loop-n.auto.n-end))
