use Rattle.std.proofs.Common.{◌∙◌, map, [], sym, ap, arith}
use Rattle.std.proofs.lemmas.List.{get_or-map, length-map}
use Rattle.quota_book.specs.QuotaCells.{has_room}
use Rattle.release_steps.specs.QuotaChain.{says_of}
use Rattle.release_steps.proofs.Touched.{first_here, none_more}
use Rattle.release_steps.proofs.touching.first_with_room.Goals as goal

pub returns-then-has_place : goal.returns-then-has_place
returns-then-has_place c =
    let cells = c.args.cells.now in
    let cell = c.index-cells-place.result in
    let at = get_or-map says_of cells c.loop-place.place cell [] c.loop-place-test.true ∙ ap says_of (sym c.index-cells-place.is) in
    sym (first_here has_room (map says_of cells) c.loop-place.place (omega (arith, length-map cells says_of, c.loop-place-test.true)) c.loop-place.invariant
    (ap has_room at ∙ sym c.has_place.ensures ∙ c.if-has_place.true))

pub loop-place-preserved : goal.loop-place-preserved
loop-place-preserved c =
    let cells = c.args.cells.now in
    let cell = c.index-cells-place.result in
    let at = get_or-map says_of cells c.loop-place.place cell [] c.loop-place-test.true ∙ ap says_of (sym c.index-cells-place.is) in
    none_more has_room (map says_of cells) c.loop-place.place (omega (arith, length-map cells says_of, c.loop-place-test.true)) c.loop-place.invariant
    (ap has_room at ∙ sym c.has_place.ensures ∙ c.if-has_place.false)
