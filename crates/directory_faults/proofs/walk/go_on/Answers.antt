use Rattle.std.proofs.Common.{◌<◌, ◌≤◌, Contains, List, length, refl, subst, arith}
use Rattle.std.proofs.lemmas.Option.{slice_get_read}
use Rattle.fileset_shapes.specs.domain_base.declared.place.Tag.{Tag}
use Rattle.directory_faults.specs.Walk.{Notes}
use Rattle.directory_faults.proofs.Walked.{on_further, on_to_the_end}
use Rattle.directory_faults.proofs.walk.go_on.Goals as goal

pub loop-place-preserved : goal.loop-place-preserved
loop-place-preserved c listed =
    let old = c.loop-place.walk in
    let dir = c.index-dir.result.now in
    let within : c.loop-place.place < length old.tags.items = omega (arith, c.loop-place-test.true, c.len.ensures, old.tags.ok.0) in
    let notes = subst (λ (l : List Tag). Notes (Contains l) old c.note_tags.new.walk) c.children_of.ensures c.in_ok-note_tags.ensures in
    on_further c.args.children.now c.args.walk.now old c.note_tags.new.walk c.loop-place.place dir
    (slice_get_read old.tags.items (length old.tags.items) c.loop-place.place dir refl within c.index-dir.ensures) notes (c.loop-place.invariant listed)

pub returns : goal.returns
returns c listed =
    let on = c.loop-place.invariant listed in
    let last = c.loop-place.walk in
    let whole : length last.tags.items ≤ c.loop-place.place = omega (arith, c.loop-place-test.false, c.len.ensures, last.tags.ok.0) in
    (on.listed, on_to_the_end c.args.children.now c.args.walk.now last c.loop-place.place whole on)
