use Rattle.std.proofs.Common.{◌≡◌, ◌∙◌, ◌+◌, sym, ap, subst, arith}
use Rattle.plain_program.specs.fileset_model.Apply.{with_node}
use Rattle.plain_program.specs.fileset_model.Fileset.{Fileset}
use Rattle.plain_program.specs.fileset_model.Paths.{paths_to}
use Rattle.name_space.specs.Trees.{hidden_below}
use Rattle.name_space.specs.Names.{number_of}
use Rattle.name_space.proofs.BelowMissing.{IsHidingOn, hiding_done, hiding_first, hiding_more}
use Rattle.name_space.proofs.hidden.hide_more.Goals as goal

pub loop-init : goal.loop-init
loop-init c = λ files nodes led of are among reached hides.
    subst (IsHidingOn files nodes led are c.args.below.now c.args.one.now among c.args.tree.now c.args.tree.now c.args.count)
    (sym (c.paths_to-counter.ensures ∙ ap (paths_to c.args.tree.now) c.number_of-number.ensures.value))
    (hiding_first files nodes led are c.args.below.now c.args.one.now among c.args.count c.args.tree.now hides)

pub loop-preserved : goal.loop-preserved
loop-preserved c = λ files nodes led of are among reached hides.
    let on = c.loop.invariant files nodes led of are among reached hides in
    let more : c.add.new.self ≡ with_node (hidden_below c.args.below.now c.loop.next) (number_of c.args.one.now.tag) c.args.one.now.node c.loop.tree =
    c.in_ok-add.ensures.ok ∙ (λ i. with_node (c.in_ok-path.ensures i) (c.number_of-number.ensures.value i) (c.in_ok-copy.ensures i) c.loop.tree) in
    let next : c.in_ok-next.next ≡ c.loop.next + 1 = c.in_ok-next.ensures.value in
    subst (λ n. IsHidingOn files nodes led are c.args.below.now c.args.one.now among c.args.tree.now c.add.new.self n (c.loop.counter + 1)) (sym next)
    (subst (λ (t : Fileset). IsHidingOn files nodes led are c.args.below.now c.args.one.now among c.args.tree.now t (c.loop.next + 1) (c.loop.counter + 1)) (sym more)
    (hiding_more files nodes led are c.args.below.now c.args.one.now among of reached c.args.tree.now c.loop.tree c.loop.next c.loop.counter on (omega (arith, c.loop-test.true)) c.number_after.ensures.width))

pub returns : goal.returns
returns c = λ files nodes led of are among reached hides.
    hiding_done files nodes led are c.args.below.now c.args.one.now among of reached c.args.tree.now c.loop.tree c.loop.next c.loop.counter
    (c.loop.invariant files nodes led of are among reached hides) (omega (arith, c.loop-test.false))
