use Rattle.std.proofs.Common.{◌+◌, ◌∙◌, drop, subst, sym}
use Rattle.domain_changes.specs.release_steps.Links.{homes_of}
use Rattle.domain_changes.proofs.OfIndexPages.Homes.{head_there}
use Rattle.release_changes.proofs.TagsBack.{TagsLeft, one_back, one_behind}
use Rattle.release_changes.proofs.emptying.give_tags_back.Goals as goal

pub give_back-requires : goal.give_back-requires
give_back-requires g c =
    let places = c.args.places.now in
    let pages = g.M.MetaPages.pages in
    let i = c.loop-place.place-index in
    let p = c.place-item.result in
    let left = subst (TagsLeft c.args.group c.args.space.now c.loop-place.space (pages c.args.pages.now) (pages c.loop-place.pages) (homes_of places)) (one_behind places i p c.loop-place-test.true (sym c.place-item.is)) c.loop-place.invariant.left in
    left.held p.home (head_there p.home (homes_of (drop (i + 1) places)))

pub loop-place-preserved : goal.loop-place-preserved
loop-place-preserved g c =
    let places = c.args.places.now in
    let pages = g.M.MetaPages.pages in
    let i = c.loop-place.place-index in
    let p = c.place-item.result in
    let left = subst (TagsLeft c.args.group c.args.space.now c.loop-place.space (pages c.args.pages.now) (pages c.loop-place.pages) (homes_of places)) (one_behind places i p c.loop-place-test.true (sym c.place-item.is)) c.loop-place.invariant.left in
    record {
      left = one_back c.args.group c.args.space.now c.loop-place.space c.give_back.new.self (pages c.args.pages.now) (pages c.loop-place.pages) (pages c.forget.new.self) (homes_of places) p.home (homes_of (drop (i + 1) places)) c.requires.low left c.give_back.ensures c.forget.ensures.value;
      before = c.forget.ensures.before ∙ c.loop-place.invariant.before;
    }
