use Rattle.std.proofs.Common.{◌∙◌, true, false, map, [], sym, ap, arith}
use Rattle.std.proofs.lemmas.List.{get_or-map, length-map}
use Rattle.quota_book.specs.QuotaCells.{is_said}
use Rattle.release_steps.specs.QuotaChain.{says_of}
use Rattle.release_steps.proofs.Touched.{first_here, none_more}
use Rattle.release_steps.proofs.touching.first_saying.Goals as goal

pub returns-then-says : goal.returns-then-says
returns-then-says c =
    let cells = c.args.cells.now in
    let cell = c.index-cells-place.result in
    let at = get_or-map says_of cells c.loop-place.place cell [] c.loop-place-test.true ∙ ap says_of (sym c.index-cells-place.is) in
    sym (first_here (is_said c.args.who) (map says_of cells) c.loop-place.place (omega (arith, length-map cells says_of, c.loop-place-test.true)) c.loop-place.invariant
    (ap (is_said c.args.who) at ∙ sym c.says.ensures ∙ c.if-says.true))

pub loop-place-preserved : goal.loop-place-preserved
loop-place-preserved c =
    let cells = c.args.cells.now in
    let cell = c.index-cells-place.result in
    let at = get_or-map says_of cells c.loop-place.place cell [] c.loop-place-test.true ∙ ap says_of (sym c.index-cells-place.is) in
    none_more (is_said c.args.who) (map says_of cells) c.loop-place.place (omega (arith, length-map cells says_of, c.loop-place-test.true)) c.loop-place.invariant
    (ap (is_said c.args.who) at ∙ sym c.says.ensures ∙ c.if-says.false)
