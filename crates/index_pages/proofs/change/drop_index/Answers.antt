use Rattle.std.proofs.Common.{◌≡◌, ◌∙◌, ◌≤◌, rules, List, None, Some, length, ap, arith, refl, subst}
use Rattle.file_release.specs.domain_base.declared.place.Home.{Home}
use Rattle.index_pages.proofs.Dropped.{AreLeft, gone_at_end, gone_by_count, held_here, none_gone, step_gone}
use Rattle.index_pages.proofs.Homes.{one_list}
use Rattle.index_pages.proofs.change.drop_index.Goals as goal

pub count_index-count-requires : goal.count_index-count-requires
count_index-count-requires g c = let (homes, are, few, held) = c.requires.index in (homes, are)

pub loop-init : goal.loop-init
loop-init g c = record {
  left = none_gone c.args.first c.args.group c.args.space.now (g.M.MetaPages.pages c.args.pages.now);
  room = omega arith;
  before = refl;
}

pub returns-in_default-clause-dropped : goal.returns-in_default-clause-dropped
returns-in_default-clause-dropped g c = λ homes are_too.
    let (known, are, few, held) = c.requires.index in
    let old = g.M.MetaPages.pages c.args.pages.now in
    let now = g.M.MetaPages.pages c.loop.pages in
    gone_at_end c.args.first c.args.group c.args.space.now c.loop.space old now c.loop.counter known are held homes are_too
    (subst (AreLeft c.args.first c.args.group c.args.space.now c.loop.space old now c.loop.counter) c.in_default.is c.loop.invariant.left)

pub drop_index_page-home-requires-clause-index : goal.drop_index_page-home-requires-clause-index
drop_index_page-home-requires-clause-index g c =
    let (known, are, few, held) = c.requires.index in
    let old = g.M.MetaPages.pages c.args.pages.now in
    let now = g.M.MetaPages.pages c.loop.pages in
    let left = subst (AreLeft c.args.first c.args.group c.args.space.now c.loop.space old now c.loop.counter) c.in-Some.is c.loop.invariant.left in
    let here = left known are held in
    (here.rest, here.are)

pub drop_index_page-home-requires-clause-held : goal.drop_index_page-home-requires-clause-held
drop_index_page-home-requires-clause-held g c =
    let (known, are, few, held) = c.requires.index in
    let old = g.M.MetaPages.pages c.args.pages.now in
    let now = g.M.MetaPages.pages c.loop.pages in
    let left = subst (AreLeft c.args.first c.args.group c.args.space.now c.loop.space old now c.loop.counter) c.in-Some.is c.loop.invariant.left in
    let low : 1 ≤ c.args.first.vol = search rules in
    held_here c.args.first c.args.group c.args.space.now c.loop.space c.loop.space old now now c.loop.counter c.in-Some.here None low known are (left known are held)

pub loop-preserved : goal.loop-preserved
loop-preserved g c =
    let old = g.M.MetaPages.pages c.args.pages.now in
    let now = g.M.MetaPages.pages c.loop.pages in
    let next = g.M.MetaPages.pages c.drop_index_page-home.new.pages in
    let left = subst (AreLeft c.args.first c.args.group c.args.space.now c.loop.space old now c.loop.counter) c.in-Some.is c.loop.invariant.left in
    let low : 1 ≤ c.args.first.vol = search rules in
    record {
      left = step_gone c.args.first c.args.group c.args.space.now c.loop.space c.drop_index_page-home.new.space old now next c.loop.counter c.in-Some.here c.drop_index_page-home.result low left c.drop_index_page-home.ensures.dropped c.drop_index_page-home.ensures.waits;
      room = omega (arith, c.loop.invariant.room, c.drop_index_page-home.ensures.room);
      before = c.drop_index_page-home.ensures.before ∙ c.loop.invariant.before;
    }

pub returns-clause-dropped : goal.returns-clause-dropped
returns-clause-dropped g c = λ homes are_too.
    let (known, are, few, held) = c.requires.index in
    let old = g.M.MetaPages.pages c.args.pages.now in
    let now = g.M.MetaPages.pages c.loop.pages in
    let same : length known ≡ length homes = ap (λ (hs : List Home). length hs) (one_list old (Some c.args.first) known homes are are_too) in
    let all = c.count_index-count.ensures homes are_too in
    gone_by_count c.args.first c.args.group c.args.space.now c.loop.space old now c.loop.counter known are held homes are_too c.loop.home c.loop.invariant.left
    (omega (arith, few, same, all, c.loop.auto.counter-end, c.loop-test.false))
