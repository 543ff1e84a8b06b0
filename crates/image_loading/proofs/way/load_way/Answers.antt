use Rattle.std.proofs.Common.{◌∙◌, IfSome, IsSome, refl, subst, sym}
use Rattle.slot_files.specs.domain_layout.Reached.{MayBe}
use Rattle.slot_files.specs.page_ways.Frame.{frame_in}
use Rattle.image_loading.proofs.Brought.{brings_none, brings_then}
use Rattle.image_loading.proofs.Walking.{has_way, none_yet}
use Rattle.image_loading.proofs.way.load_way.Goals as goal

pub loop-alloc-init : goal.loop-alloc-init
loop-alloc-init g c =
    let pages = g.M.MetaPages.pages c.args.pages.now in
    let frame = frame_in c.args.frame.now in
    record {
      brings = brings_none (g.R.Rack.disk c.args.rack.now) pages;
      passed = refl;
      before = refl;
      walk = c.new-walk.ensures.walk pages frame;
      unread = none_yet pages frame c.new-walk.result c.new-walk.ensures.unread;
    }

pub loop-alloc-preserved : goal.loop-alloc-preserved
loop-alloc-preserved g c =
    let disk = g.R.Rack.disk in
    let pages = g.M.MetaPages.pages in
    record {
      brings = brings_then (disk c.args.rack.now) (disk c.loop-alloc.rack) (disk c.load_next.new.rack) (pages c.args.pages.now) (pages c.loop-alloc.pages) (pages c.load_next.new.pages)
          c.loop-alloc.invariant.brings c.load_next.ensures.brings;
      passed = c.in_ok-load_next.ensures.fault ∙ c.loop-alloc.invariant.passed;
      before = c.load_next.ensures.before ∙ c.loop-alloc.invariant.before;
      walk = c.in_ok-load_next.ensures.walk;
      unread = c.in_ok-load_next.ensures.unread;
    }

pub returns-in_err-load_next-clause-brings : goal.returns-in_err-load_next-clause-brings
returns-in_err-load_next-clause-brings g c =
    let disk = g.R.Rack.disk in
    let pages = g.M.MetaPages.pages in
    brings_then (disk c.args.rack.now) (disk c.loop-alloc.rack) (disk c.load_next.new.rack) (pages c.args.pages.now) (pages c.loop-alloc.pages) (pages c.load_next.new.pages)
    c.loop-alloc.invariant.brings c.load_next.ensures.brings

pub returns-clause-whole : goal.returns-clause-whole
returns-clause-whole g c =
    let pages = g.M.MetaPages.pages c.loop-alloc.pages in
    let frame = frame_in c.args.frame.now in
    let way = g.W.PageWay.way c.args.way.now in
    has_way pages frame way c.finish.result.homes.items c.finish.result.unread (c.finish.ensures.read pages frame way c.loop-alloc.invariant.walk)
    (subst (λ o. IfSome o (λ home. MayBe frame home → IsSome (pages home))) (sym c.finish.ensures.unread) c.loop-alloc.invariant.unread)
