use Rattle.std.proofs.Common.{◌<◌, get_or, sym, ◌∙◌, subst}
use Rattle.free_space.specs.VolumePages.{VolumePages}
use Rattle.free_space.specs.declared.waiting.PageUse.TheVariants.{Data}
use Rattle.free_space.proofs.Apart.{among_at}
use Rattle.free_space.proofs.Freeing.{free_none, free_more}
use Rattle.free_space.proofs.volume.free_each.Goals as goal

pub loop-page-init : goal.loop-page-init
loop-page-init c = free_none c.args.map.now

pub clear-requires : goal.clear-requires
clear-requires c =
    subst (λ (m : VolumePages). (get_or c.args.waiting.now c.loop-page.page-index (record { page = 0; kind = Data; group = 0 })).page < m.pages) (sym c.loop-page.invariant)
    (c.requires _ (among_at c.args.waiting.now c.loop-page.page-index (record { page = 0; kind = Data; group = 0 }) c.loop-page-test.true))

pub loop-page-preserved : goal.loop-page-preserved
loop-page-preserved c =
    c.clear.ensures
    ∙ free_more c.args.map.now c.loop-page.map c.args.waiting.now c.loop-page.page-index (record { page = 0; kind = Data; group = 0 }) c.loop-page-test.true c.loop-page.invariant
