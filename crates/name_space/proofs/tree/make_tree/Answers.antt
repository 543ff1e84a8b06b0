use Rattle.std.proofs.Common.{◌≡◌, ◌∙◌, ◌+◌, Some, length, slice_get, subst, sym, ap, arith}
use Rattle.std.proofs.lemmas.Option.{slice_get-get_or}
use Rattle.name_space.proofs.Grown.{IsGrown, grown_all, grown_first, grown_more}
use Rattle.name_space.proofs.tree.make_tree.Goals as goal

pub loop-one-init : goal.loop-one-init
loop-one-init c = λ files are.
    subst (IsGrown files c.args.nodes.now c.args.led.now 0) (sym c.in_ok-tree.ensures)
    (grown_first files c.args.nodes.now c.args.led.now c.number_of.result c.number_of.ensures.value)

pub loop-one-preserved : goal.loop-one-preserved
loop-one-preserved c = λ files are.
    let there : slice_get c.args.led.now c.loop-one.one-index ≡ Some c.one-item.result =
    slice_get-get_or c.args.led.now c.loop-one.one-index c.one-item.result c.loop-one-test.true ∙ ap Some (sym c.one-item.is) in
    subst (IsGrown files c.args.nodes.now c.args.led.now (c.loop-one.one-index + 1)) (sym c.in_ok-add_led.ensures)
    (grown_more files c.args.nodes.now c.args.led.now are c.loop-one.one-index c.loop-one.tree (c.loop-one.invariant files are) c.one-item.result there)

pub returns : goal.returns
returns c = λ files are.
    let all : c.loop-one.one-index ≡ length c.args.led.now = omega (arith, c.loop-one-test.false, c.loop-one.auto.one-index-end) in
    grown_all files c.args.nodes.now c.args.led.now are c.loop-one.tree
    (subst (λ n. IsGrown files c.args.nodes.now c.args.led.now n c.loop-one.tree) all (c.loop-one.invariant files are))
