use Rattle.std.proofs.Common.{ℕ, ◌+◌, ◌∙◌, length, inl, inr, subst}
use Rattle.std.proofs.lemmas.Result.{on_ok_weaker}
use Rattle.log_ring.specs.volume_disk.Disk.{Syncs}
use Rattle.log_ring.proofs.OfVolumeDisk.Laws.{only_writes-then, only_writes-wider}
use Rattle.log_ring.specs.Ring.{IsOnPlaces}
use Rattle.meta_log.specs.Force.{IsGroupBody, IsHeaderBody}
use Rattle.meta_log.proofs.Bodies.{all_written, ready_to_open, three_written}
use Rattle.meta_log.proofs.group.write_body.Goals as goal

pub returns-in_err-write_header_body-clause-writes : goal.returns-in_err-write_header_body-clause-writes
returns-in_err-write_header_body-clause-writes g c =
    only_writes-wider (g.R.Rack.disk c.args.rack.now) (g.R.Rack.disk c.write_header_body.new.rack) (IsHeaderBody c.args.anchor.now c.args.place) (IsGroupBody c.args.anchor.now c.args.place (length c.args.images.now)) (λ v k is. inl is) c.write_header_body.ensures.writes

pub returns-in_err-write_images-clause-writes : goal.returns-in_err-write_images-clause-writes
returns-in_err-write_images-clause-writes g c =
    let d0 = g.R.Rack.disk c.args.rack.now in
    let d1 = g.R.Rack.disk c.write_header_body.new.rack in
    let d2 = g.R.Rack.disk c.write_images.new.rack in
    let anchor = c.args.anchor.now in
    let place = c.args.place in
    let n = length c.args.images.now in
    only_writes-then d0 d1 d2 (IsGroupBody anchor place n)
    (only_writes-wider d0 d1 (IsHeaderBody anchor place) (IsGroupBody anchor place n) (λ v k is. inl is) c.write_header_body.ensures.writes)
    (only_writes-wider d1 d2 (IsOnPlaces anchor (place + 1) n) (IsGroupBody anchor place n) (λ v k is. inr (inl is)) c.write_images.ensures.writes)

pub returns-in_err-close_gate-clause-writes : goal.returns-in_err-close_gate-clause-writes
returns-in_err-close_gate-clause-writes g c =
    let d0 = g.R.Rack.disk c.args.rack.now in
    let d1 = g.R.Rack.disk c.write_header_body.new.rack in
    let d2 = g.R.Rack.disk c.write_images.new.rack in
    let d3 = g.R.Rack.disk c.close_gate.new.rack in
    three_written c.args.anchor.now c.args.place c.args.images.now c.requires.few d0 d1 d2 d3 c.write_header_body.ensures.writes c.write_images.ensures.writes c.close_gate.ensures.writes

pub returns-clause-writes : goal.returns-clause-writes
returns-clause-writes g c =
    let d0 = g.R.Rack.disk c.args.rack.now in
    let d1 = g.R.Rack.disk c.write_header_body.new.rack in
    let d2 = g.R.Rack.disk c.write_images.new.rack in
    let d3 = g.R.Rack.disk c.close_gate.new.rack in
    let d4 = g.R.Rack.disk c.sync_volume.new.rack in
    all_written c.args.anchor.now c.args.place c.args.images.now c.requires.few d0 d1 d2 d3 c.write_header_body.ensures.writes c.write_images.ensures.writes c.close_gate.ensures.writes d4 c.sync_volume.ensures.writes

pub returns-clause-ready : goal.returns-clause-ready
returns-clause-ready g c =
    let d0 = g.R.Rack.disk c.args.rack.now in
    let d1 = g.R.Rack.disk c.write_header_body.new.rack in
    let d2 = g.R.Rack.disk c.write_images.new.rack in
    let d3 = g.R.Rack.disk c.close_gate.new.rack in
    let d4 = g.R.Rack.disk c.sync_volume.new.rack in
    let first = c.write_header_body.ensures.writes in
    let second = c.write_images.ensures.writes in
    let third = c.close_gate.ensures.writes in
    on_ok_weaker c.sync_volume.result (λ syncs told.
    let told-1 = first.touches.told ∙ told in
    let told-2 = second.touches.told ∙ told-1 in
    let told-3 = third.touches.told ∙ told-2 in
    ready_to_open c.args.anchor.now c.args.place c.args.images.now c.requires.few d0 d1 d2 d3 first second third d4 c.sync_volume.ensures.writes told c.args.header.now
    (c.in_ok-write_header_body.ensures.written told) (c.in_ok-write_images.ensures.written told-1) (c.in_ok-close_gate.ensures.closed told-2)
    (subst (λ (v : ℕ). Syncs v d3.now d4.now) c.requires.vol (syncs told-3))) c.sync_volume.ensures.synced
