use Rattle.std.proofs.Common.{◌<◌, get_or, ap, sym, ◌∙◌, subst}
use Rattle.std.specs.FinSet.{remove}
use Rattle.free_space.specs.VolumePages.{VolumePages}
use Rattle.free_space.proofs.Used.{with_used}
use Rattle.free_space.proofs.Changing.{clear_none, clear_more, one_at}
use Rattle.free_space.proofs.volume.clear_each.Goals as goal

pub clear-requires : goal.clear-requires
clear-requires c =
    subst (λ (m : VolumePages). get_or c.args.pages.now c.loop-page.page-index 0 < m.pages) (sym c.loop-page.invariant)
    (c.requires _ (one_at c.args.pages.now c.loop-page.page-index 0 c.loop-page-test.true))

pub loop-page-init : goal.loop-page-init
loop-page-init c = ap (with_used c.args.map.now) (sym (clear_none c.args.map.now.used))

pub loop-page-preserved : goal.loop-page-preserved
loop-page-preserved c =
    c.clear.ensures
    ∙ ap (λ (m : VolumePages). with_used m (remove m.used (get_or c.args.pages.now c.loop-page.page-index 0))) c.loop-page.invariant
    ∙ ap (with_used c.args.map.now) (clear_more c.args.map.now.used c.args.pages.now c.loop-page.page-index 0 c.loop-page-test.true)
