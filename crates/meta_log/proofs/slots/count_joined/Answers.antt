use Rattle.std.proofs.Common.{◌≡◌, ◌+◌, cond, Bool, false, length, take, sym, ◌∙◌, ap, arith}
use Rattle.std.specs.List.{list_any}
use Rattle.log_ring.specs.page_store.Pages.{same_home}
use Rattle.log_ring.specs.Images.{homes_of, joined}
use Rattle.log_ring.specs.declared.image.PageImage.{PageImage}
use Rattle.log_ring.proofs.Overlays.{JoinsWell-joined}
use Rattle.meta_log.proofs.Joining.{counted_more, joined-shorter}
use Rattle.meta_log.proofs.slots.count_joined.Goals.{then-not-has_home_of, else-not-has_home_of}
use Rattle.meta_log.proofs.slots.count_joined.Goals as goal

pub overflow_add-count : goal.overflow_add-count
overflow_add-count c =
    let change = c.args.change.now in
    let pending = c.args.pending.now in
    let i = c.loop-image.image-index in
    let image : PageImage = c.image-item.result in
    let n = length (joined (take i change) pending) in
    let is : list_any (same_home image.home) (homes_of pending) ≡ false = sym c.has_home_of.ensures ∙ c.if-not-has_home_of.true in
    let more = counted_more change pending i image c.loop-image-test.true c.image-item.is c.requires.change ∙ ap (λ (b : Bool). cond b n (n + 1)) is in
    let shorter = joined-shorter change pending (i + 1) in
    let most = (JoinsWell-joined change pending).most in
    let few = c.requires.few in
    let so_far : c.loop-image.count ≡ n = c.loop-image.invariant in
    omega arith

pub loop-image-preserved : goal.loop-image-preserved
loop-image-preserved c =
    let change = c.args.change.now in
    let pending = c.args.pending.now in
    let i = c.loop-image.image-index in
    let image : PageImage = c.image-item.result in
    let n = length (joined (take i change) pending) in
    let so_far : c.loop-image.count ≡ n = c.loop-image.invariant in
    let more = counted_more change pending i image c.loop-image-test.true c.image-item.is c.requires.change in
    elim c.if-not-has_home_of.branch [
      | then-not-has_home_of w ↦ w.count-is ∙ ap (λ m. m + 1) so_far ∙ sym (more ∙ ap (λ (b : Bool). cond b n (n + 1)) (sym c.has_home_of.ensures ∙ w.if-not-has_home_of.true))
      | else-not-has_home_of w ↦ w.count-is ∙ so_far ∙ sym (more ∙ ap (λ (b : Bool). cond b n (n + 1)) (sym c.has_home_of.ensures ∙ w.if-not-has_home_of.false))
    ]
