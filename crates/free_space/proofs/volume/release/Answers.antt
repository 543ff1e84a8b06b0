use Rattle.std.proofs.Common.{◌<◌, get_or, rules, sym, ◌∙◌, subst}
use Rattle.std.proofs.lemmas.Fn.{filter_same}
use Rattle.free_space.specs.VolumePages.{VolumePages}
use Rattle.free_space.specs.declared.waiting.PageUse.TheVariants.{Data}
use Rattle.free_space.proofs.Apart.{among_at}
use Rattle.free_space.proofs.Releasing.{release_none, release_more, release_less}
use Rattle.free_space.proofs.volume.release.Goals as goal
use Rattle.free_space.proofs.volume.release.Goals.{then-is_due, else-is_due}

pub loop-page-init : goal.loop-page-init
loop-page-init c = release_none c.args.map.now c.args.kind c.args.group

pub clear-requires : goal.clear-requires
clear-requires c =
    let there = among_at c.deref-page-items.result.now c.loop-page.page-index (record { page = 0; kind = Data; group = 0 }) c.loop-page-test.true in
    subst (λ (m : VolumePages). (get_or c.deref-page-items.result.now c.loop-page.page-index (record { page = 0; kind = Data; group = 0 })).page < m.pages) (sym c.loop-page.invariant)
    (c.requires _ (rw (sym c.deref-page-items.ensures.value) there))

pub loop-page-preserved : goal.loop-page-preserved
loop-page-preserved c = elim c.if-is_due.branch [
  | then-is_due w ↦
      w.map-is ∙ w.clear.ensures
      ∙ release_more c.args.map.now c.loop-page.map c.deref-page-items.result.now c.loop-page.page-index (record { page = 0; kind = Data; group = 0 }) c.args.kind c.args.group
      c.loop-page-test.true c.loop-page.invariant (sym c.is_due.ensures ∙ w.if-is_due.true)
  | else-is_due w ↦
      w.map-is
      ∙ release_less c.args.map.now c.loop-page.map c.deref-page-items.result.now c.loop-page.page-index (record { page = 0; kind = Data; group = 0 }) c.args.kind c.args.group
      c.loop-page-test.true c.loop-page.invariant (sym c.is_due.ensures ∙ w.if-is_due.false)
]

pub returns-clause-waiting : goal.returns-clause-waiting
returns-clause-waiting c = filter_same _ _ _ (λ x b f k. search rules) _ _ c.retain.ensures.filtered
