use Rattle.std.proofs.Common.{◌≡◌}
use Rattle.slot_files.specs.page_ways.Frame.{frame_in}
use Rattle.slot_files.specs.page_ways.Walk.{IsWalk, steps_left}
use Rattle.image_loading.specs.Loading.{Brings, HasUnread}
use Rattle.image_loading.proofs.way.load_way.Given as goal

abbrev pub invariant-loop-alloc : goal.invariant-loop-alloc
invariant-loop-alloc g l =
    let disk = g.R.Rack.disk in
    let pages = g.M.MetaPages.pages in
    record {
      brings : Brings (disk l.fn.rack) (disk l.rack) (pages l.fn.pages) (pages l.pages);
      passed : (disk l.rack).read_faults ≡ (disk l.fn.rack).read_faults;
      before : g.M.MetaPages.before l.pages ≡ g.M.MetaPages.before l.fn.pages;
      walk : IsWalk (pages l.pages) (frame_in l.frame) (g.W.PageWay.way l.way) l.walk;
      unread : HasUnread (pages l.pages) (frame_in l.frame) l.walk;
    }

abbrev pub decreases-loop-alloc : goal.decreases-loop-alloc
decreases-loop-alloc g l = steps_left l.walk
