use Rattle.std.proofs.Common.{◌≡◌, ◌∙◌, ◌+◌, Some, length, slice_get, subst, sym, ap, arith}
use Rattle.std.proofs.lemmas.Option.{slice_get-get_or}
use Rattle.std.specs.FinMap as map
use Rattle.name_space.proofs.OutOfSync.{AreOut, all_out, no_node, out_first, out_more, out_stays, some_node}
use Rattle.name_space.proofs.missing.missing_numbers.Goals.{then-is_missing+in_ok-insert, else-is_missing}
use Rattle.name_space.proofs.missing.missing_numbers.Goals as goal

pub loop-one-init : goal.loop-one-init
loop-one-init c = subst (AreOut c.args.nodes.now c.args.led.now 0) (sym c.new-out.ensures) (out_first c.args.nodes.now c.args.led.now)

pub loop-one-preserved : goal.loop-one-preserved
loop-one-preserved c =
    let there : slice_get c.args.led.now c.loop-one.one-index ≡ Some c.one-item.result =
    slice_get-get_or c.args.led.now c.loop-one.one-index c.one-item.result c.loop-one-test.true ∙ ap Some (sym c.one-item.is) in
    let nodes = c.args.nodes.now in
    let led = c.args.led.now in
    let at = c.loop-one.one-index in
    let one = c.one-item.result in
    elim c.if-is_missing.branch [
      | then-is_missing+in_ok-insert w ↦
          subst (AreOut nodes led (at + 1)) (sym (w.out-is ∙ w.in_ok-insert.ensures.ok ∙ ap (λ n. map.insert c.loop-one.out n tt) w.number_of.ensures.value))
          (out_more nodes led at c.loop-one.out c.loop-one.invariant one there (no_node nodes one.tag (sym c.is_missing.ensures ∙ w.if-is_missing.true)))
      | else-is_missing w ↦
          subst (AreOut nodes led (at + 1)) (sym w.out-is)
          (out_stays nodes led at c.loop-one.out c.loop-one.invariant one there (some_node nodes one.tag (sym c.is_missing.ensures ∙ w.if-is_missing.false)))
    ]

pub returns : goal.returns
returns c = λ files are.
    let all : c.loop-one.one-index ≡ length c.args.led.now = omega (arith, c.loop-one-test.false, c.loop-one.auto.one-index-end) in
    all_out files c.args.nodes.now c.args.led.now are c.loop-one.out
    (subst (λ n. AreOut c.args.nodes.now c.args.led.now n c.loop-one.out) all c.loop-one.invariant)
