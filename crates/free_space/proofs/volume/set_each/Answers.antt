use Rattle.std.proofs.Common.{◌<◌, get_or, ap, sym, ◌∙◌, subst}
use Rattle.std.specs.FinSet.{insert}
use Rattle.free_space.specs.VolumePages.{VolumePages}
use Rattle.free_space.proofs.Used.{with_used}
use Rattle.free_space.proofs.Changing.{set_none, set_more, one_at}
use Rattle.free_space.proofs.volume.set_each.Goals as goal

pub set-requires : goal.set-requires
set-requires c =
    subst (λ (m : VolumePages). get_or c.args.pages.now c.loop-page.page-index 0 < m.pages) (sym c.loop-page.invariant)
    (c.requires _ (one_at c.args.pages.now c.loop-page.page-index 0 c.loop-page-test.true))

pub loop-page-init : goal.loop-page-init
loop-page-init c = ap (with_used c.args.map.now) (sym (set_none c.args.map.now.used))

pub loop-page-preserved : goal.loop-page-preserved
loop-page-preserved c =
    c.set.ensures
    ∙ ap (λ (m : VolumePages). with_used m (insert m.used (get_or c.args.pages.now c.loop-page.page-index 0))) c.loop-page.invariant
    ∙ ap (with_used c.args.map.now) (set_more c.args.map.now.used c.args.pages.now c.loop-page.page-index 0 c.loop-page-test.true)
