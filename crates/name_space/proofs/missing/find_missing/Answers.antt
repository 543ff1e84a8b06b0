use Rattle.std.proofs.Common.{◌≡◌, ◌∙◌, ◌+◌, Some, length, slice_get, subst, sym, ap, arith}
use Rattle.std.proofs.lemmas.Option.{slice_get-get_or}
use Rattle.name_space.proofs.OutOfSync.{missing_there, none_missing, seen_more, there_or}
use Rattle.name_space.proofs.missing.find_missing.Goals as goal

pub returns-then-is_missing_directory : goal.returns-then-is_missing_directory
returns-then-is_missing_directory c = λ files are.
    let there : slice_get c.args.led.now c.loop-one.one-index ≡ Some c.one-item.result =
    slice_get-get_or c.args.led.now c.loop-one.one-index c.one-item.result c.loop-one-test.true ∙ ap Some (sym c.one-item.is) in
    missing_there files c.args.nodes.now c.args.led.now are c.loop-one.one-index c.one-item.result there (sym c.is_missing_directory.ensures ∙ c.if-is_missing_directory.true)

pub loop-one-preserved : goal.loop-one-preserved
loop-one-preserved c =
    let there : slice_get c.args.led.now c.loop-one.one-index ≡ Some c.one-item.result =
    slice_get-get_or c.args.led.now c.loop-one.one-index c.one-item.result c.loop-one-test.true ∙ ap Some (sym c.one-item.is) in
    seen_more c.args.nodes.now c.args.led.now c.loop-one.one-index c.loop-one.invariant c.one-item.result there
    (there_or c.args.nodes.now c.one-item.result (sym c.is_missing_directory.ensures ∙ c.if-is_missing_directory.false))

pub returns : goal.returns
returns c = λ files are. none_missing files c.args.nodes.now c.args.led.now are
    (λ k one low. c.loop-one.invariant k one (omega (arith, low, c.loop-one-test.false)))
