use Rattle.std.proofs.Common.{◌∙◌, arith, length-drop, sym, subst}
use Rattle.page_store.specs.domain_base.declared.version.Version.TheVariants.{Four}
use Rattle.cell_records.specs.Records.{Begins}
use Rattle.metadata_cells.proofs.OneByOne.{tail_is, read_is}
use Rattle.metadata_cells.proofs.Found.{leaves_all, leaves_next, found_none, found_bad, found_one}
use Rattle.metadata_cells.proofs.records.first_record.Goals as goal

pub loop-at-init : goal.loop-at-init
loop-at-init c = (omega arith, leaves_all c.args.bytes.now c.args.kind)

pub returns-in_default : goal.returns-in_default
returns-in_default c = found_bad c.args.bytes.now c.args.kind c.loop-at.at c.loop-at.invariant.1 c.loop-at-test.true
    (λ r begins. c.in_default.ensures.none r (subst (λ bytes. Begins Four bytes r) (sym (tail_is c.args.bytes.now c.loop-at.at)) begins))

pub returns-then-kind : goal.returns-then-kind
returns-then-kind c = found_one c.args.bytes.now c.args.kind c.loop-at.at c.loop-at.invariant.1 c.loop-at-test.true c.in-Ok.record c.in-Ok.length
    (λ q begins. let same = c.in-Ok.ensures.only q (subst (λ bytes. Begins Four bytes q) (sym (tail_is c.args.bytes.now c.loop-at.at)) begins) in read_is q c.in-Ok.record _ c.in-Ok.length (sym same))
    c.in-Ok.ensures.found.1 (sym c.kind.ensures ∙ c.if-kind.true)

pub loop-at-preserved : goal.loop-at-preserved
loop-at-preserved c = (
  omega (arith, c.in-Ok.ensures.inside.1, length-drop c.loop-at.at c.args.bytes.now, tail_is c.args.bytes.now c.loop-at.at, c.loop-at.invariant.0),
  leaves_next c.args.bytes.now c.args.kind c.loop-at.at c.loop-at.invariant.1 c.loop-at-test.true c.in-Ok.record c.in-Ok.length
      (λ q begins. let same = c.in-Ok.ensures.only q (subst (λ bytes. Begins Four bytes q) (sym (tail_is c.args.bytes.now c.loop-at.at)) begins) in read_is q c.in-Ok.record _ c.in-Ok.length (sym same))
      c.in-Ok.ensures.found.1 (λ same. c.if-kind.false (c.kind.ensures ∙ same)),
)

pub returns : goal.returns
returns c = found_none c.args.bytes.now c.args.kind c.loop-at.at c.loop-at.invariant.1 c.loop-at-test.false
