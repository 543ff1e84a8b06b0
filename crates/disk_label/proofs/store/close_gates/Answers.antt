use Rattle.std.proofs.Common.{◌∙◌, inl, inr}
use Rattle.std.proofs.lemmas.Result.{on_ok_weaker}
use Rattle.volume_disk.proofs.Laws.{only_writes-then, only_writes-wider}
use Rattle.disk_label.proofs.Steps.{no_anchor}
use Rattle.disk_label.specs.Slot.{IsGate, IsGateOf}
use Rattle.disk_label.proofs.store.close_gates.Goals as goal

pub returns-in_err-close_slot-clause-writes : goal.returns-in_err-close_slot-clause-writes
returns-in_err-close_slot-clause-writes g c =
    only_writes-wider (g.R.Rack.disk c.args.rack.now) (g.R.Rack.disk c.close_slot.new.rack) (IsGate c.args.vol 0) (IsGateOf c.args.vol) (λ v k is_in. inl is_in) c.close_slot.ensures.writes

pub returns-clause-writes : goal.returns-clause-writes
returns-clause-writes g c =
    let d0 = g.R.Rack.disk c.args.rack.now in
    let d1 = g.R.Rack.disk c.close_slot.new.rack in
    let d2 = g.R.Rack.disk c.close_slot-2.new.rack in
    only_writes-then d0 d1 d2 (IsGateOf c.args.vol)
    (only_writes-wider d0 d1 (IsGate c.args.vol 0) (IsGateOf c.args.vol) (λ v k is_in. inl is_in) c.close_slot.ensures.writes)
    (only_writes-wider d1 d2 (IsGate c.args.vol 1) (IsGateOf c.args.vol) (λ v k is_in. inr is_in) c.close_slot-2.ensures.writes)

pub returns-clause-none : goal.returns-clause-none
returns-clause-none g c = on_ok_weaker c.close_slot-2.result (λ settled told.
    let told-1 = c.close_slot.ensures.writes.touches.told ∙ told in
    no_anchor c.args.vol (g.R.Rack.disk c.args.rack.now) (g.R.Rack.disk c.close_slot.new.rack) (g.R.Rack.disk c.close_slot-2.new.rack) c.requires.there.0 told-1 (c.in_ok-close_slot.ensures.settled told) c.close_slot-2.ensures.writes
    (settled told-1)) c.close_slot-2.ensures.settled
