use Rattle.std.proofs.Common.{◌≡◌, ◌<◌, List, length, map-id, is_some, inl, sym, ap, ◌∙◌, arith}
use Rattle.std.proofs.lemmas.Iterator.Adapters.{YieldsList-from_vec}
use Rattle.std.proofs.lemmas.Iterator.Consumers.{YieldsList-end, YieldsList-turn}
use Rattle.log_ring.specs.Images.{overlaid}
use Rattle.log_ring.specs.declared.image.PageImage.{PageImage}
use Rattle.log_ring.proofs.Overlays.{overlaid_more, room_more}
use Rattle.log_ring.proofs.change.Change.install.Goals as goal

pub put-requires : goal.put-requires
put-requires g c =
    let given = c.into_iter-image-iterator.ensures.into_iter_gives in
    let size : c.into_iter-image-iterator.result.rest.len ≡ length c.self.inside.images.items = omega (arith, given.1, c.self.inside.images.ok.0) in
    let turn = YieldsList-turn (YieldsList-from_vec c.self.inside.images.items given.0 size) c.loop-image.yielded c.loop-image.image-iterator c.loop-image.yielded_by c.next.result c.next.new.self c.in-Some.image c.in-Some.is c.next.ensures.steps in
    let less : length c.loop-image.yielded < length c.self.inside.images.items = turn.0 in
    inl (omega (arith, less, ap (length {A = PageImage}) c.self.view_is, c.requires, c.loop-image.invariant.left))

pub loop-image-preserved : goal.loop-image-preserved
loop-image-preserved g c = record {
  value = overlaid_more c.loop-image.yielded c.in-Some.image (g.M.MetaPages.pages c.args.pages.now) (g.M.MetaPages.pages c.loop-image.pages) (g.M.MetaPages.pages c.put.new.self) c.loop-image.invariant.value c.put.ensures.value;
  before = c.put.ensures.before ∙ c.loop-image.invariant.before;
  left = room_more c.loop-image.yielded c.in-Some.image (is_some (g.M.MetaPages.pages c.loop-image.pages c.in-Some.image.home)) (g.M.MetaPages.room c.args.pages.now) (g.M.MetaPages.room c.loop-image.pages) (g.M.MetaPages.room c.put.new.self) c.loop-image.invariant.left c.put.ensures.left;
}

pub returns-clause-value : goal.returns-clause-value
returns-clause-value g c =
    let given = c.into_iter-image-iterator.ensures.into_iter_gives in
    let size : c.into_iter-image-iterator.result.rest.len ≡ length c.self.inside.images.items = omega (arith, given.1, c.self.inside.images.ok.0) in
    let all = YieldsList-end (YieldsList-from_vec c.self.inside.images.items given.0 size) c.loop-image.yielded c.loop-image.image-iterator c.loop-image.yielded_by c.next.result c.next.new.self c.in-None.is c.next.ensures.steps in
    c.loop-image.invariant.value ∙ ap (λ (images : List PageImage). overlaid images (g.M.MetaPages.pages c.args.pages.now)) (sym (map-id c.loop-image.yielded) ∙ all.0 ∙ c.self.view_is)

pub returns-clause-left : goal.returns-clause-left
returns-clause-left g c =
    let given = c.into_iter-image-iterator.ensures.into_iter_gives in
    let size : c.into_iter-image-iterator.result.rest.len ≡ length c.self.inside.images.items = omega (arith, given.1, c.self.inside.images.ok.0) in
    let all = YieldsList-end (YieldsList-from_vec c.self.inside.images.items given.0 size) c.loop-image.yielded c.loop-image.image-iterator c.loop-image.yielded_by c.next.result c.next.new.self c.in-None.is c.next.ensures.steps in
    let count : length c.loop-image.yielded ≡ length c.args.self = all.1 ∙ ap (length {A = PageImage}) c.self.view_is in
    omega (arith, count, c.loop-image.invariant.left)
