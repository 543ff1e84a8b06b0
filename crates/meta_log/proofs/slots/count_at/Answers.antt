use Rattle.std.proofs.Common.{◌≡◌, ◌+◌, cond, Bool, List, false, length, take, sym, ◌∙◌, ap, arith}
use Rattle.std.specs.List.{list_any}
use Rattle.log_ring.specs.page_store.Pages.{no_pages, same_home}
use Rattle.log_ring.specs.Images.{homes_of, joined}
use Rattle.log_ring.specs.declared.image.PageImage.{PageImage}
use Rattle.log_ring.proofs.Overlays.{JoinsWell-joined}
use Rattle.meta_log.specs.Log.{images_at}
use Rattle.meta_log.proofs.FromStore.{counted_at, length-images_at}
use Rattle.meta_log.proofs.Joining.{joined-shorter}
use Rattle.meta_log.proofs.slots.count_at.Goals.{then-not-has_home, else-not-has_home}
use Rattle.meta_log.proofs.slots.count_at.Goals as goal

pub overflow_add-count : goal.overflow_add-count
overflow_add-count c =
    let homes = c.args.homes.now in
    let pending = c.args.pending.now in
    let images : List PageImage = images_at no_pages homes in
    let i = c.loop-home.home-index in
    let home = c.home-item.result in
    let n = length (joined (take i images) pending) in
    let is : list_any (same_home home) (homes_of pending) ≡ false = sym c.has_home.ensures ∙ c.if-not-has_home.true in
    let more = counted_at no_pages homes pending i home c.loop-home-test.true c.home-item.is c.requires.homes ∙ ap (λ (b : Bool). cond b n (n + 1)) is in
    let shorter = joined-shorter images pending (i + 1) in
    let most = (JoinsWell-joined images pending).most in
    let size = length-images_at no_pages homes in
    let few = c.requires.few in
    let so_far : c.loop-home.count ≡ n = c.loop-home.invariant no_pages in
    omega arith

pub loop-home-preserved : goal.loop-home-preserved
loop-home-preserved c = λ pages.
    let homes = c.args.homes.now in
    let pending = c.args.pending.now in
    let i = c.loop-home.home-index in
    let home = c.home-item.result in
    let n = length (joined (take i (images_at pages homes)) pending) in
    let so_far : c.loop-home.count ≡ n = c.loop-home.invariant pages in
    let more = counted_at pages homes pending i home c.loop-home-test.true c.home-item.is c.requires.homes in
    elim c.if-not-has_home.branch [
      | then-not-has_home w ↦ w.count-is ∙ ap (λ m. m + 1) so_far ∙ sym (more ∙ ap (λ (b : Bool). cond b n (n + 1)) (sym c.has_home.ensures ∙ w.if-not-has_home.true))
      | else-not-has_home w ↦ w.count-is ∙ so_far ∙ sym (more ∙ ap (λ (b : Bool). cond b n (n + 1)) (sym c.has_home.ensures ∙ w.if-not-has_home.false))
    ]
