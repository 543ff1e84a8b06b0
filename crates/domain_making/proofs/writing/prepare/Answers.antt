use Rattle.std.proofs.Common.{◌∙◌}
use Rattle.std.proofs.lemmas.Result.{on_ok_weaker}
use Rattle.domain_making.proofs.First.{over_none}
use Rattle.domain_making.proofs.Slots.{label_still, prepared, prepared_since}
use Rattle.domain_making.proofs.writing.prepare.Goals as goal

pub returns-in-Ok-clause-touches : goal.returns-in-Ok-clause-touches
returns-in-Ok-clause-touches g c =
    prepared (g.R.Rack.disk c.args.rack.now) (g.R.Rack.disk c.write_first.new.rack) (g.R.Rack.disk c.ready_slots.new.rack) c.write_first.ensures.writes c.ready_slots.ensures.touches

pub returns-in-Ok-clause-label : goal.returns-in-Ok-clause-label
returns-in-Ok-clause-label g c =
    let d1 = g.R.Rack.disk c.write_first.new.rack in
    let d2 = g.R.Rack.disk c.ready_slots.new.rack in
    on_ok_weaker c.ready_slots.result (λ _ told.
    label_still d1 d2 c.args.version c.args.pages c.ready_slots.ensures.touches (c.write_first.ensures.writes.touches.told ∙ told) (c.in-Ok.ensures.label told)) c.ready_slots.ensures.passed

pub returns-in-Ok-clause-any_moment : goal.returns-in-Ok-clause-any_moment
returns-in-Ok-clause-any_moment g c = λ told others ready.
    let d0 = g.R.Rack.disk c.args.rack.now in
    let d1 = g.R.Rack.disk c.write_first.new.rack in
    let d2 = g.R.Rack.disk c.ready_slots.new.rack in
    prepared_since d0 d1 d2 c.write_first.ensures.writes told (c.write_first.ensures.any_moment told ready)
    (c.ready_slots.ensures.any_moment (c.write_first.ensures.writes.touches.told ∙ told) (c.in-Ok.ensures.none told others) (c.in-Ok.ensures.synced told))

pub returns-in-Ok-clause-over : goal.returns-in-Ok-clause-over
returns-in-Ok-clause-over g c = λ told others.
    let d0 = g.R.Rack.disk c.args.rack.now in
    let d1 = g.R.Rack.disk c.write_first.new.rack in
    let d2 = g.R.Rack.disk c.ready_slots.new.rack in
    over_none c.args.version c.args.pages d0 d1 d2 c.write_first.ensures.writes.touches.sizes (c.write_first.ensures.over told others)
    (c.ready_slots.ensures.any_moment (c.write_first.ensures.writes.touches.told ∙ told) (c.in-Ok.ensures.none told others) (c.in-Ok.ensures.synced told))

pub returns-in-Ok-clause-ready : goal.returns-in-Ok-clause-ready
returns-in-Ok-clause-ready g c =
    on_ok_weaker c.ready_slots.result
    (λ ready told others. ready (c.write_first.ensures.writes.touches.told ∙ told) (c.in-Ok.ensures.none told others) (c.in-Ok.ensures.synced told)) c.ready_slots.ensures.ready
