use Rattle.std.proofs.Common.{◌+◌}
use Rattle.std.proofs.lemmas.Option.{slice_get-get_or}
use Rattle.directory_faults.proofs.Walked.{InFront, notes_all, notes_both, one_more}
use Rattle.directory_faults.proofs.walk.note_tags.Goals as goal

pub loop-tag-preserved : goal.loop-tag-preserved
loop-tag-preserved c =
    let tags = c.args.tags.now in
    let number = c.loop-tag.tag-index in
    notes_both (InFront tags number) _ (InFront tags (number + 1)) c.args.walk.now c.loop-tag.walk c.note_tag.new.walk c.loop-tag.invariant c.in_ok-note_tag.ensures
    (one_more tags number _ (slice_get-get_or tags number _ c.loop-tag-test.true))

pub returns : goal.returns
returns c = notes_all c.args.tags.now c.loop-tag.tag-index c.args.walk.now c.loop-tag.walk c.loop-tag-test.false c.loop-tag.invariant
