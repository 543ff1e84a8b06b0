use Rattle.std.proofs.Common.{◌≡◌, ◌∙◌, ◌-◌, ◌<◌, ℕ, List, [], length, take, drop, sym, ap, subst, arith}
use Rattle.std.proofs.lemmas.List.{length-drop, length-take-le}
use Rattle.std.specs.Option.{option_copied, unwrap_or}
use Rattle.log_ring.specs.Images.{AreDistinctHomes, joined, with_image}
use Rattle.log_ring.specs.declared.image.PageImage.{PageImage}
use Rattle.log_ring.proofs.Overlays.{AreDistinctHomes-joined}
use Rattle.meta_log.specs.Log.{images_at}
use Rattle.meta_log.proofs.FromStore.{has_page, one_more, page_there}
use Rattle.meta_log.proofs.Joining.{joined-shorter}
use Rattle.meta_log.proofs.slots.join_from.Goals as goal

pub unreachable-requires : goal.unreachable-requires
unreachable-requires g c =
    has_page (g.M.MetaPages.pages c.args.pages.now) c.args.homes.now c.loop-home.home-index c.home-item.result c.loop-home-test.true c.home-item.is c.requires.kept (sym c.get.ensures ∙ ap option_copied c.in_default.is)

pub put-last-requires-clause-room : goal.put-last-requires-clause-room
put-last-requires-clause-room g c =
    let so_far = c.loop-home.invariant in
    let slots = c.loop-home.slots in
    let first = c.args.first in
    let last = c.loop-home.last in
    let images : List PageImage = images_at (g.M.MetaPages.pages c.args.pages.now) c.args.homes.now in
    let pending = drop first (take c.args.end c.args.slots.now) in
    let size : length (drop first (take last slots)) ≡ last - first = omega (arith, length-drop first (take last slots), length-take-le last slots so_far.within) in
    let is : length (drop first (take last slots)) ≡ length (joined (take c.loop-home.home-index images) pending) = ap (λ (l : List PageImage). length l) so_far.joined in
    let shorter = joined-shorter images pending c.loop-home.home-index in
    let room = c.requires.room in
    let same : length slots ≡ length c.args.slots.now = c.loop-home.auto.slots in
    let end = so_far.end in
    let order = c.requires.order in
    omega arith

pub put-last-requires-clause-distinct : goal.put-last-requires-clause-distinct
put-last-requires-clause-distinct g c =
    let images : List PageImage = images_at (g.M.MetaPages.pages c.args.pages.now) c.args.homes.now in
    subst AreDistinctHomes (sym c.loop-home.invariant.joined) (AreDistinctHomes-joined (take c.loop-home.home-index images) (drop c.args.first (take c.args.end c.args.slots.now)) c.requires.distinct)

pub loop-home-preserved : goal.loop-home-preserved
loop-home-preserved g c =
    let so_far = c.loop-home.invariant in
    let pages = g.M.MetaPages.pages c.args.pages.now in
    let homes = c.args.homes.now in
    let images : List PageImage = images_at pages homes in
    let i = c.loop-home.home-index in
    let slots = c.loop-home.slots in
    let first = c.args.first in
    let last = c.loop-home.last in
    let pending = drop first (take c.args.end c.args.slots.now) in
    let home = c.home-item.result in
    let page = c.in-Some.page.now in
    let there : unwrap_or (pages home) [] ≡ page = page_there pages home page (sym c.get.ensures ∙ ap option_copied c.in-Some.is) in
    let most = c.put-last.ensures.most in
    let size : length (drop first (take last slots)) ≡ last - first = omega (arith, length-drop first (take last slots), length-take-le last slots so_far.within) in
    let is : length (drop first (take last slots)) ≡ length (joined (take i images) pending) = ap (λ (l : List PageImage). length l) so_far.joined in
    let shorter = joined-shorter images pending i in
    let same : length slots ≡ length c.args.slots.now = c.loop-home.auto.slots in
    let still : length c.put-last.new.slots ≡ length slots = c.put-last.auto.slots in
    let room : last < length slots = omega (arith, c.requires.room, so_far.end, c.requires.order) in
    record {
      front = c.put-last.ensures.front ∙ so_far.front;
      joined =
          c.put-last.ensures.put
          ∙ ap (λ (l : List PageImage). with_image home page l) so_far.joined
          ∙ ap (λ (p : List ℕ). with_image home p (joined (take i images) pending)) (sym there)
          ∙ sym (one_more pages homes pending i home c.loop-home-test.true c.home-item.is);
      end = omega (arith, so_far.end, c.put-last.ensures.end);
      within = omega arith;
    }
