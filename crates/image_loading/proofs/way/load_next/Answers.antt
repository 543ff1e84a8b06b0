use Rattle.std.proofs.Common.{◌∙◌, sym}
use Rattle.slot_files.specs.page_ways.Frame.{frame_in}
use Rattle.image_loading.proofs.Walking.{none_unread, unread_then, walk_on}
use Rattle.image_loading.proofs.way.load_next.Goals as goal

pub step-requires : goal.step-requires
step-requires g c =
    walk_on (g.M.MetaPages.pages c.args.pages.now) (g.M.MetaPages.pages c.fetch_next.new.pages) (frame_in c.args.frame.now) (g.W.PageWay.way c.args.way.now) c.args.walk.now
    c.fetch_next.ensures.brings.kept c.in-Some.home (sym c.next.ensures ∙ c.in-Some.is) c.requires.walk

pub returns-clause-unread : goal.returns-clause-unread
returns-clause-unread g c =
    let frame = frame_in c.args.frame.now in
    let next = sym c.next.ensures ∙ c.in-Some.is in
    unread_then (g.M.MetaPages.pages c.fetch_next.new.pages) frame c.args.walk.now c.step.new.self c.in-Some.home next
    (none_unread (g.M.MetaPages.pages c.args.pages.now) frame (g.W.PageWay.way c.args.way.now) c.args.walk.now c.in-Some.home next c.requires.walk) c.in_ok-fetch_next.ensures.there c.in_ok-step.ensures.unread
