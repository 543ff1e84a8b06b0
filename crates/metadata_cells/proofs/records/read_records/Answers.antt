use Rattle.std.proofs.Common.{sym, subst}
use Rattle.page_store.specs.domain_base.declared.version.Version.TheVariants.{Four}
use Rattle.cell_records.specs.Records.{Begins}
use Rattle.metadata_cells.proofs.OneByOne.{read_more, not_read, not_above, tail_is, read_is}
use Rattle.metadata_cells.proofs.records.read_records.Goals as goal

pub returns-in_default : goal.returns-in_default
returns-in_default c =
    not_read c.args.bytes.now c.args.found.now.items c.loop-at.found.items c.loop-at.at c.loop-at.last c.loop-at.invariant c.loop-at-test.true
    (λ r begins. c.in_default.ensures.none r (subst (λ bytes. Begins Four bytes r) (sym (tail_is c.args.bytes.now c.loop-at.at)) begins))

pub returns-then-place-last : goal.returns-then-place-last
returns-then-place-last c =
    not_above c.args.bytes.now c.args.found.now.items c.loop-at.found.items c.loop-at.at c.loop-at.last c.loop-at.invariant c.loop-at-test.true c.in-Ok.record
    (λ q begins. let same = c.in-Ok.ensures.only q (subst (λ bytes. Begins Four bytes q) (sym (tail_is c.args.bytes.now c.loop-at.at)) begins) in read_is q c.in-Ok.record _ c.in-Ok.length (sym same))
    (rw (sym c.place_of-place.ensures) c.if-place-last.true)

pub loop-at-preserved : goal.loop-at-preserved
loop-at-preserved c =
    let begins = subst (λ bytes. Begins Four bytes c.in-Ok.record) (tail_is c.args.bytes.now c.loop-at.at) c.in-Ok.ensures.found.0 in
    let so = read_more c.args.bytes.now c.args.found.now.items c.loop-at.found.items c.loop-at.at c.loop-at.last c.loop-at.invariant c.in-Ok.record c.in-Ok.length
    begins c.in-Ok.ensures.found.1 (rw (sym c.place_of-place.ensures) c.if-place-last.false) in
    rw (c.in_ok-push.ensures.items, c.place_of-place.ensures) so
