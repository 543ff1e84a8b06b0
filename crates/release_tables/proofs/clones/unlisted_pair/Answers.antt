use Rattle.std.proofs.Common.{IfSome, subst}
use Rattle.release_steps.specs.page_store.Homes.{pages_of}
use Rattle.release_tables.specs.Pairs.{IsCloneOf}
use Rattle.release_tables.proofs.Pairs.{pair_room, pair_well}
use Rattle.release_tables.proofs.clones.unlisted_pair.Goals as goal

pub set_record-requires-clause-room : goal.set_record-requires-clause-room
set_record-requires-clause-room c =
    let world = c.args.world.now in
    let r = c.requires in
    pair_room world.space world.cells (pages_of world.pages.entries.items) c.args.pair.now.at c.args.pair.now.clone r.0 r.1 r.2 c.args.frozen c.in_ok-record.record
    (subst (λ o. IfSome o (IsCloneOf c.args.pair.now.at c.args.frozen)) c.in_ok-record.ensures.ok_part c.clone_record.ensures)

pub returns : goal.returns
returns c =
    let world = c.args.world.now in
    let r = c.requires in
    let two = r.2 in
    let sets = c.in_ok-set_record.ensures in
    let reader = c.may_go.ensures in
    let file = c.may_go-else-not-may_go.ensures in
    let yes = c.if-not-may_go.false in
    let yes_too = c.if-not-may_go-2.false in
    pair_well world.space world.cells (pages_of world.pages.entries.items) (pages_of c.set_record.new.pages.entries.items) c.args.pair.now.at c.args.pair.now.clone r.0 r.1 two c.args.frozen c.in_ok-record.record
    (subst (λ o. IfSome o (IsCloneOf c.args.pair.now.at c.args.frozen)) c.in_ok-record.ensures.ok_part c.clone_record.ensures)
    sets.ok sets.others sets.well_formed sets.headers (file.alone r.0 two.file.file yes_too) (file.says r.0 two.file.file yes_too) (reader.says r.1 two.reader.file yes) c.new.result.list c.new.ensures.entries c.new.ensures.tag_pages
