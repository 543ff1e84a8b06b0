use Rattle.std.proofs.Common.{◌≡◌, List, take, ◌∙◌, ap, subst}
use Rattle.log_ring.specs.declared.image.PageImage.{PageImage}
use Rattle.meta_log.specs.Log.{IsLog, Log}
use Rattle.meta_log.proofs.Checkpointing.{checkpointed, checkpoints, is_next}
use Rattle.meta_log.proofs.log.MetaLog.checkpoint.Goals as goal

pub bring_home-requires-clause-next : goal.bring_home-requires-clause-next
bring_home-requires-clause-next g c = λ told.
    let log : Log = c.args.self.now in
    let is : IsLog log = subst IsLog c.self.view_is c.self.invariant.is in
    is_next log is c.args.anchor.now (g.R.Rack.disk c.args.rack.now) c.next_anchor-next.result c.next_anchor-next.ensures (c.requires.is told)

pub returns-in_err-bring_home-clause-checkpoints : goal.returns-in_err-bring_home-clause-checkpoints
returns-in_err-bring_home-clause-checkpoints g c =
    let log : Log = c.args.self.now in
    let is : IsLog log = subst IsLog c.self.view_is c.self.invariant.is in
    let slots : List PageImage = c.deref.result.now in
    let images_are : take c.self.inside.logged slots ≡ log.logged = ap (λ (l : List PageImage). take c.self.inside.logged l) c.deref.ensures.value ∙ (λ i. (c.self.view_is i).logged) in
    checkpoints log is c.args.anchor.now (take c.self.inside.logged slots) c.next_anchor-next.result images_are c.next_anchor-next.ensures (g.R.Rack.disk c.args.rack.now) (g.R.Rack.disk c.bring_home.new.rack) c.bring_home.ensures.brings

pub returns-clause-checkpoints : goal.returns-clause-checkpoints
returns-clause-checkpoints g c =
    let log : Log = c.args.self.now in
    let is : IsLog log = subst IsLog c.self.view_is c.self.invariant.is in
    let slots : List PageImage = c.deref.result.now in
    let images_are : take c.self.inside.logged slots ≡ log.logged = ap (λ (l : List PageImage). take c.self.inside.logged l) c.deref.ensures.value ∙ (λ i. (c.self.view_is i).logged) in
    checkpoints log is c.args.anchor.now (take c.self.inside.logged slots) c.next_anchor-next.result images_are c.next_anchor-next.ensures (g.R.Rack.disk c.args.rack.now) (g.R.Rack.disk c.bring_home.new.rack) c.bring_home.ensures.brings

pub returns-clause-done : goal.returns-clause-done
returns-clause-done g c =
    let log : Log = c.args.self.now in
    let is : IsLog log = subst IsLog c.self.view_is c.self.invariant.is in
    let slots : List PageImage = c.deref.result.now in
    let images_are : take c.self.inside.logged slots ≡ log.logged = ap (λ (l : List PageImage). take c.self.inside.logged l) c.deref.ensures.value ∙ (λ i. (c.self.view_is i).logged) in
    checkpointed log is c.args.anchor.now (take c.self.inside.logged slots) c.next_anchor-next.result images_are c.next_anchor-next.ensures (g.R.Rack.disk c.args.rack.now) (g.R.Rack.disk c.bring_home.new.rack) c.in_ok-bring_home.ensures.done
