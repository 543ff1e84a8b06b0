use Rattle.std.proofs.Common.{◌≡◌, ◌-◌, ◌<◌, List, length, take, drop, sym, ◌∙◌, ap, subst, arith}
use Rattle.std.proofs.lemmas.List.{length-drop, length-take-le}
use Rattle.log_ring.specs.Images.{AreDistinctHomes, joined, with_image}
use Rattle.log_ring.specs.declared.image.PageImage.{PageImage}
use Rattle.log_ring.proofs.Overlays.{AreDistinctHomes-joined}
use Rattle.meta_log.proofs.Joining.{joined-shorter, joined_more}
use Rattle.meta_log.proofs.slots.join.Goals as goal

pub put-last-requires-clause-room : goal.put-last-requires-clause-room
put-last-requires-clause-room c =
    let so_far = c.loop-image.invariant in
    let slots = c.loop-image.slots in
    let first = c.args.first in
    let last = c.loop-image.last in
    let pending = drop first (take c.args.end c.args.slots.now) in
    let size : length (drop first (take last slots)) ≡ last - first = omega (arith, length-drop first (take last slots), length-take-le last slots so_far.within) in
    let is : length (drop first (take last slots)) ≡ length (joined (take c.loop-image.image-index c.args.change.now) pending) = ap (λ (l : List PageImage). length l) so_far.joined in
    let shorter = joined-shorter c.args.change.now pending c.loop-image.image-index in
    let room = c.requires.room in
    let same : length slots ≡ length c.args.slots.now = c.loop-image.auto.slots in
    let end = so_far.end in
    let order = c.requires.order in
    omega arith

pub put-last-requires-clause-distinct : goal.put-last-requires-clause-distinct
put-last-requires-clause-distinct c =
    subst AreDistinctHomes (sym c.loop-image.invariant.joined) (AreDistinctHomes-joined (take c.loop-image.image-index c.args.change.now) (drop c.args.first (take c.args.end c.args.slots.now)) c.requires.distinct)

pub loop-image-preserved : goal.loop-image-preserved
loop-image-preserved c =
    let so_far = c.loop-image.invariant in
    let slots = c.loop-image.slots in
    let first = c.args.first in
    let last = c.loop-image.last in
    let pending = drop first (take c.args.end c.args.slots.now) in
    let image : PageImage = c.image-item.result in
    let most = c.put-last.ensures.most in
    let size : length (drop first (take last slots)) ≡ last - first = omega (arith, length-drop first (take last slots), length-take-le last slots so_far.within) in
    let is : length (drop first (take last slots)) ≡ length (joined (take c.loop-image.image-index c.args.change.now) pending) = ap (λ (l : List PageImage). length l) so_far.joined in
    let shorter = joined-shorter c.args.change.now pending c.loop-image.image-index in
    let same : length slots ≡ length c.args.slots.now = c.loop-image.auto.slots in
    let still : length c.put-last.new.slots ≡ length slots = c.put-last.auto.slots in
    let room : last < length slots = omega (arith, c.requires.room, so_far.end, c.requires.order) in
    record {
      front = c.put-last.ensures.front ∙ so_far.front;
      joined = c.put-last.ensures.put ∙ ap (λ (l : List PageImage). with_image image.home image.page l) so_far.joined ∙ sym (joined_more c.args.change.now pending c.loop-image.image-index image c.loop-image-test.true c.image-item.is);
      end = omega (arith, so_far.end, c.put-last.ensures.end);
      within = omega arith;
    }
