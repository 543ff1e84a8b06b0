use Rattle.std.proofs.Common.{inl, refl, subst}
use Rattle.log_recovery.proofs.OfVolumeDisk.Laws.{touches-none}
use Rattle.log_recovery.specs.log_ring.Ring.{IsOnLog}
use Rattle.file_pages.specs.meta_log.Force.{Forces, HasForced}
use Rattle.file_pages.specs.meta_log.Log.{Log}
use Rattle.log_tables.proofs.AtRest.{added, adds_or_not, full_alone, logged, nothing_logged, touches_ring}
use Rattle.log_tables.proofs.openings.log_change.Goals as goal

pub returns-in-Err-clause-any_moment : goal.returns-in-Err-clause-any_moment
returns-in-Err-clause-any_moment g c = let d0 = g.R.Rack.disk c.args.rack.now in nothing_logged d0 d0 c.args.log.now c.args.change.now c.requires.rests refl

pub returns-in-Err-clause-refused : goal.returns-in-Err-clause-refused
returns-in-Err-clause-refused g c _ = inl (full_alone c.args.log.now c.args.change.now c.requires.rests.forced c.images-images.ensures.sound.distinct c.in-Err.ensures.full, c.in-Err.ensures.err, refl)

pub returns-in-Ok-force-clause-rests : goal.returns-in-Ok-force-clause-rests
returns-in-Ok-force-clause-rests g c _ =
    let d0 = g.R.Rack.disk c.args.rack.now in
    let d1 = g.R.Rack.disk c.force.new.rack in
    let is = c.in-Ok.ensures.ok in
    logged d0 d1 c.args.log.now c.args.change.now c.requires.rests c.requires.may.some c.images-images.ensures.sound.distinct (subst (λ (l : Log). Forces d0 d1 l) is c.force.ensures.forces)
    (subst (λ (l : Log). HasForced d0 d1 l) is c.in-Ok-force.ensures.done) c.append.new.self c.force.new.self is c.in-Ok-force.ensures.ok

pub returns-in-Ok-force-clause-adds : goal.returns-in-Ok-force-clause-adds
returns-in-Ok-force-clause-adds g c _ =
    let d0 = g.R.Rack.disk c.args.rack.now in
    let d1 = g.R.Rack.disk c.force.new.rack in
    let is = c.in-Ok.ensures.ok in
    added d0 d1 c.args.log.now c.args.change.now c.requires.rests c.requires.may.some c.images-images.ensures.sound.distinct (subst (λ (l : Log). Forces d0 d1 l) is c.force.ensures.forces)
    (subst (λ (l : Log). HasForced d0 d1 l) is c.in-Ok-force.ensures.done) c.append.new.self c.force.new.self is c.in-Ok-force.ensures.ok

pub returns-in-Ok-force-clause-any_moment : goal.returns-in-Ok-force-clause-any_moment
returns-in-Ok-force-clause-any_moment g c =
    let d0 = g.R.Rack.disk c.args.rack.now in
    let d1 = g.R.Rack.disk c.force.new.rack in
    adds_or_not d0 d1 c.args.log.now c.args.change.now c.requires.rests c.requires.may.some c.images-images.ensures.sound.distinct (subst (λ (l : Log). Forces d0 d1 l) c.in-Ok.ensures.ok c.force.ensures.forces)

pub returns-in-Err-force-clause-any_moment : goal.returns-in-Err-force-clause-any_moment
returns-in-Err-force-clause-any_moment g c =
    let d0 = g.R.Rack.disk c.args.rack.now in
    let d1 = g.R.Rack.disk c.force.new.rack in
    adds_or_not d0 d1 c.args.log.now c.args.change.now c.requires.rests c.requires.may.some c.images-images.ensures.sound.distinct (subst (λ (l : Log). Forces d0 d1 l) c.in-Ok.ensures.ok c.force.ensures.forces)

pub returns-in-Err-clause-touches : goal.returns-in-Err-clause-touches
returns-in-Err-clause-touches g c = touches-none (g.R.Rack.disk c.args.rack.now) (IsOnLog c.args.log.now.anchor)

pub returns-in-Ok-force-clause-touches : goal.returns-in-Ok-force-clause-touches
returns-in-Ok-force-clause-touches g c =
    let d0 = g.R.Rack.disk c.args.rack.now in
    let d1 = g.R.Rack.disk c.force.new.rack in
    touches_ring d0 d1 c.args.log.now c.args.change.now c.requires.rests c.requires.may.some c.images-images.ensures.sound.distinct (subst (λ (l : Log). Forces d0 d1 l) c.in-Ok.ensures.ok c.force.ensures.forces)

pub returns-in-Err-force-clause-touches : goal.returns-in-Err-force-clause-touches
returns-in-Err-force-clause-touches g c =
    let d0 = g.R.Rack.disk c.args.rack.now in
    let d1 = g.R.Rack.disk c.force.new.rack in
    touches_ring d0 d1 c.args.log.now c.args.change.now c.requires.rests c.requires.may.some c.images-images.ensures.sound.distinct (subst (λ (l : Log). Forces d0 d1 l) c.in-Ok.ensures.ok c.force.ensures.forces)
