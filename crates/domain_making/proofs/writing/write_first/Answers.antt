use Rattle.std.proofs.Common.{ℕ, subst}
use Rattle.std.proofs.lemmas.Result.{on_ok_weaker}
use Rattle.domain_layout.specs.volume_disk.Image.{IsIn}
use Rattle.domain_layout.specs.volume_disk.Run.{OnlyWrites}
use Rattle.domain_layout.specs.disk_label.Slot.{HasNoAnchorOn, IsGateOf}
use Rattle.domain_making.proofs.First.{both_in_front, both_since, first_in_front, first_over, gates_over, gates_since, none_then}
use Rattle.domain_making.proofs.writing.write_first.Goals as goal

pub returns-in_err-close_gates-clause-writes : goal.returns-in_err-close_gates-clause-writes
returns-in_err-close_gates-clause-writes g c =
    let d0 = g.R.Rack.disk c.args.rack.now in
    let d1 = g.R.Rack.disk c.close_gates.new.rack in
    first_in_front d0 d1 (subst (λ (v : ℕ). OnlyWrites d0 d1 (IsGateOf v)) c.first_volume.ensures c.close_gates.ensures.writes)

pub returns-in_err-close_gates-clause-any_moment : goal.returns-in_err-close_gates-clause-any_moment
returns-in_err-close_gates-clause-any_moment g c =
    let d0 = g.R.Rack.disk c.args.rack.now in
    let d1 = g.R.Rack.disk c.close_gates.new.rack in
    gates_since d0 d1 (subst (λ (v : ℕ). OnlyWrites d0 d1 (IsGateOf v)) c.first_volume.ensures c.close_gates.ensures.writes)

pub returns-clause-writes : goal.returns-clause-writes
returns-clause-writes g c =
    let d0 = g.R.Rack.disk c.args.rack.now in
    let d1 = g.R.Rack.disk c.close_gates.new.rack in
    let d2 = g.R.Rack.disk c.write_label.new.rack in
    both_in_front d0 d1 d2 (subst (λ (v : ℕ). OnlyWrites d0 d1 (IsGateOf v)) c.first_volume.ensures c.close_gates.ensures.writes)
    (subst (λ (v : ℕ). OnlyWrites d1 d2 (IsIn v 0 8192)) c.first_volume-2.ensures c.write_label.ensures.writes)

pub returns-clause-none : goal.returns-clause-none
returns-clause-none g c =
    let d0 = g.R.Rack.disk c.args.rack.now in
    let d1 = g.R.Rack.disk c.close_gates.new.rack in
    let d2 = g.R.Rack.disk c.write_label.new.rack in
    on_ok_weaker c.write_label.result (λ _ told others.
    none_then d0 d1 d2 (subst (λ (v : ℕ). OnlyWrites d0 d1 (IsGateOf v)) c.first_volume.ensures c.close_gates.ensures.writes)
    (subst (λ (v : ℕ). OnlyWrites d1 d2 (IsIn v 0 8192)) c.first_volume-2.ensures c.write_label.ensures.writes) told others
    (subst (λ (v : ℕ). HasNoAnchorOn d1 v) c.first_volume.ensures (c.in_ok-close_gates.ensures.none told))) c.write_label.ensures.label

pub returns-clause-any_moment : goal.returns-clause-any_moment
returns-clause-any_moment g c =
    let d0 = g.R.Rack.disk c.args.rack.now in
    let d1 = g.R.Rack.disk c.close_gates.new.rack in
    let d2 = g.R.Rack.disk c.write_label.new.rack in
    both_since d0 d1 d2 (subst (λ (v : ℕ). OnlyWrites d0 d1 (IsGateOf v)) c.first_volume.ensures c.close_gates.ensures.writes)
    (subst (λ (v : ℕ). OnlyWrites d1 d2 (IsIn v 0 8192)) c.first_volume-2.ensures c.write_label.ensures.writes)

pub returns-in_err-close_gates-clause-over : goal.returns-in_err-close_gates-clause-over
returns-in_err-close_gates-clause-over g c = λ told others.
    let d0 = g.R.Rack.disk c.args.rack.now in
    let d1 = g.R.Rack.disk c.close_gates.new.rack in
    gates_over c.args.version c.args.pages d0 d1 (subst (λ (v : ℕ). OnlyWrites d0 d1 (IsGateOf v)) c.first_volume.ensures c.close_gates.ensures.writes) told

pub returns-clause-over : goal.returns-clause-over
returns-clause-over g c = λ told others.
    let d0 = g.R.Rack.disk c.args.rack.now in
    let d1 = g.R.Rack.disk c.close_gates.new.rack in
    let d2 = g.R.Rack.disk c.write_label.new.rack in
    first_over c.args.version c.args.pages d0 d1 d2 (subst (λ (v : ℕ). OnlyWrites d0 d1 (IsGateOf v)) c.first_volume.ensures c.close_gates.ensures.writes)
    (subst (λ (v : ℕ). OnlyWrites d1 d2 (IsIn v 0 8192)) c.first_volume-2.ensures c.write_label.ensures.writes) told others
    (subst (λ (v : ℕ). HasNoAnchorOn d1 v) c.first_volume.ensures (c.in_ok-close_gates.ensures.none told))
