use Rattle.std.proofs.Common.{◌+◌, List, Some, length, sym, subst}
use Rattle.log_ring.specs.volume_disk.Run.{IsAtMost}
use Rattle.log_ring.specs.disk_label.Anchor.{IsNext}
use Rattle.log_ring.specs.disk_label.declared.anchor.Anchor.{Anchor}
use Rattle.log_ring.specs.declared.image.PageImage.{PageImage}
use Rattle.log_ring.specs.Settling.{BringsHome}
use Rattle.log_recovery.proofs.GoodAnchors.{settles_readably}
use Rattle.log_recovery.proofs.SettledAnchors.{is_next}
use Rattle.log_recovery.proofs.settling.settle.Goals as goal

pub bring_home-requires-clause-next : goal.bring_home-requires-clause-next
bring_home-requires-clause-next g c told =
    let redone = c.args.redone.now in
    (Some redone.anchor, c.requires.counts told, subst (IsNext (Some redone.anchor)) (sym c.settled_anchor-next.ensures) (is_next redone))

pub returns-clause-readable : goal.returns-clause-readable
returns-clause-readable g c =
    let redone = c.args.redone.now in
    let old = g.R.Rack.disk c.args.rack.now in
    let new = g.R.Rack.disk c.bring_home.new.rack in
    settles_readably old new redone c.requires.left c.requires.sound
    (subst (λ (next : Anchor). BringsHome old new redone.images next) c.settled_anchor-next.ensures (subst (λ (images : List PageImage). BringsHome old new images c.settled_anchor-next.result) c.as_slice.ensures c.bring_home.ensures.brings))

pub returns-clause-few : goal.returns-clause-few
returns-clause-few g c = subst (λ (images : List PageImage). IsAtMost (length images + 14) (g.R.Rack.disk c.args.rack.now) (g.R.Rack.disk c.bring_home.new.rack)) c.as_slice.ensures c.bring_home.ensures.few
