use Rattle.std.proofs.Common.{ℕ, subst, arith}
use Rattle.std.proofs.lemmas.Result.{on_ok_weaker}
use Rattle.domain_layout.specs.disk_label.Slot.{HasReadied, ReadiesSlot}
use Rattle.domain_making.proofs.Slots.{both_ready, both_since, both_within, slot_since, slot_within}
use Rattle.domain_making.proofs.writing.ready_slots.Goals as goal

pub returns-in-Err-clause-touches : goal.returns-in-Err-clause-touches
returns-in-Err-clause-touches g c =
    let d0 = g.R.Rack.disk c.args.rack.now in
    let d1 = g.R.Rack.disk c.ready_slot.new.rack in
    slot_within d0 d1 0 (omega arith) (subst (λ (v : ℕ). ReadiesSlot d0 d1 v 0) c.first_volume.ensures c.ready_slot.ensures.readies)

pub returns-in-Err-clause-any_moment : goal.returns-in-Err-clause-any_moment
returns-in-Err-clause-any_moment g c =
    let d0 = g.R.Rack.disk c.args.rack.now in
    let d1 = g.R.Rack.disk c.ready_slot.new.rack in
    slot_since d0 d1 0 (subst (λ (v : ℕ). ReadiesSlot d0 d1 v 0) c.first_volume.ensures c.ready_slot.ensures.readies)

pub returns-in-Ok-clause-touches : goal.returns-in-Ok-clause-touches
returns-in-Ok-clause-touches g c =
    let d0 = g.R.Rack.disk c.args.rack.now in
    let d1 = g.R.Rack.disk c.ready_slot.new.rack in
    let d2 = g.R.Rack.disk c.ready_slot-in-Ok.new.rack in
    both_within d0 d1 d2 (subst (λ (v : ℕ). ReadiesSlot d0 d1 v 0) c.first_volume.ensures c.ready_slot.ensures.readies)
    (subst (λ (v : ℕ). ReadiesSlot d1 d2 v 1) c.first_volume-in-Ok.ensures c.ready_slot-in-Ok.ensures.readies)

pub returns-in-Ok-clause-ready : goal.returns-in-Ok-clause-ready
returns-in-Ok-clause-ready g c =
    let d0 = g.R.Rack.disk c.args.rack.now in
    let d1 = g.R.Rack.disk c.ready_slot.new.rack in
    let d2 = g.R.Rack.disk c.ready_slot-in-Ok.new.rack in
    on_ok_weaker c.ready_slot-in-Ok.result (λ ready told has synced.
    both_ready d0 d1 d2 (subst (λ (v : ℕ). ReadiesSlot d0 d1 v 0) c.first_volume.ensures c.ready_slot.ensures.readies)
    (subst (λ (v : ℕ). ReadiesSlot d1 d2 v 1) c.first_volume-in-Ok.ensures c.ready_slot-in-Ok.ensures.readies) c.in-Ok.ensures.synced told has synced
    (subst (λ (v : ℕ). HasReadied d0 d1 v 0) c.first_volume.ensures c.in-Ok.ensures.ready)
    (subst (λ (v : ℕ). HasReadied d1 d2 v 1) c.first_volume-in-Ok.ensures ready)) c.ready_slot-in-Ok.ensures.ready

pub returns-in-Ok-clause-any_moment : goal.returns-in-Ok-clause-any_moment
returns-in-Ok-clause-any_moment g c =
    let d0 = g.R.Rack.disk c.args.rack.now in
    let d1 = g.R.Rack.disk c.ready_slot.new.rack in
    let d2 = g.R.Rack.disk c.ready_slot-in-Ok.new.rack in
    both_since d0 d1 d2 (subst (λ (v : ℕ). ReadiesSlot d0 d1 v 0) c.first_volume.ensures c.ready_slot.ensures.readies)
    (subst (λ (v : ℕ). ReadiesSlot d1 d2 v 1) c.first_volume-in-Ok.ensures c.ready_slot-in-Ok.ensures.readies) c.in-Ok.ensures.synced
