use Rattle.fileset_shapes.specs.domain_base.contracts.place.TagOrd.TheImpl as tag_ord
use Rattle.directory_faults.proofs.TagSets.{put_key, tag_at}
use Rattle.directory_faults.proofs.Walked.{notes_new}
use Rattle.directory_faults.proofs.walk.note_tag.Goals as goal

pub returns-in_ok-push : goal.returns-in_ok-push
returns-in_ok-push c =
    let old = c.args.walk.now in
    notes_new old (record { tags = c.push.new.self; seen = c.insert.new.self }) c.args.tag
    (put_key ((tag_ord.ghosts).cmp) old.seen c.insert.new.self c.args.tag (tag_at c.args.tag) c.in_ok-is_new.ensures.updates.0)
    c.in_ok-push.ensures.items
