use Rattle.std.proofs.Common.{ℕ, ◌+◌, ◌*◌, subst, arith}
use Rattle.std.proofs.lemmas.Result.{on_ok_weaker}
use Rattle.volume_disk.specs.domain_base.Gate.{closed, opened}
use Rattle.volume_disk.specs.Run.{OnlyWrites, Settles}
use Rattle.disk_label.specs.Slot.{IsBody, IsGate}
use Rattle.disk_label.proofs.Steps.{one_write, two_writes, three_writes, has_written}
use Rattle.disk_label.proofs.store.write_anchor.Goals as goal

-- what is said of the volume that was found by its number is said of the one that the anchor names

pub returns-in_err-close_slot-clause-writes : goal.returns-in_err-close_slot-clause-writes
returns-in_err-close_slot-clause-writes g c =
    let d0 = g.R.Rack.disk c.args.rack.now in
    let d1 = g.R.Rack.disk c.close_slot.new.rack in
    let slot = c.args.anchor.now.slot in
    one_write c.args.anchor.now c.requires.whole d0 d1 (subst (λ (v : ℕ). OnlyWrites d0 d1 (IsGate v slot)) c.in-Some.ensures.value c.close_slot.ensures.writes)

pub returns-in_err-write_body-clause-writes : goal.returns-in_err-write_body-clause-writes
returns-in_err-write_body-clause-writes g c =
    let d0 = g.R.Rack.disk c.args.rack.now in
    let d1 = g.R.Rack.disk c.close_slot.new.rack in
    let d2 = g.R.Rack.disk c.write_body.new.rack in
    let slot = c.args.anchor.now.slot in
    let names = c.in-Some.ensures.value in
    two_writes c.args.anchor.now c.requires.whole d0 d1 (subst (λ (v : ℕ). OnlyWrites d0 d1 (IsGate v slot)) names c.close_slot.ensures.writes)
    (λ told. subst (λ (v : ℕ). Settles v (8192 + 4096 * slot) closed d0.now d1.now) names (c.in_ok-close_slot.ensures.settled told))
    d2 (subst (λ (v : ℕ). OnlyWrites d1 d2 (IsBody v slot)) names c.write_body.ensures.writes)

pub returns-clause-writes : goal.returns-clause-writes
returns-clause-writes g c =
    let d0 = g.R.Rack.disk c.args.rack.now in
    let d1 = g.R.Rack.disk c.close_slot.new.rack in
    let d2 = g.R.Rack.disk c.write_body.new.rack in
    let d3 = g.R.Rack.disk c.open_slot.new.rack in
    let slot = c.args.anchor.now.slot in
    let names = c.in-Some.ensures.value in
    three_writes c.args.anchor.now c.requires.whole d0 d1 (subst (λ (v : ℕ). OnlyWrites d0 d1 (IsGate v slot)) names c.close_slot.ensures.writes)
    (λ told. subst (λ (v : ℕ). Settles v (8192 + 4096 * slot) closed d0.now d1.now) names (c.in_ok-close_slot.ensures.settled told))
    d2 (subst (λ (v : ℕ). OnlyWrites d1 d2 (IsBody v slot)) names c.write_body.ensures.writes)
    c.encode.result (omega arith) c.encode.ensures.reads_back
    (λ told. subst (λ (v : ℕ). Settles v (8192 + 4096 * slot + 512) c.encode.result d1.now d2.now) names (c.in_ok-write_body.ensures.settled told))
    d3 (subst (λ (v : ℕ). OnlyWrites d2 d3 (IsGate v slot)) names c.open_slot.ensures.writes)
    (g.met.R.Rack.holds_bytes c.args.rack.now) c.requires.pages c.requires.next

pub returns-clause-done : goal.returns-clause-done
returns-clause-done g c =
    let d0 = g.R.Rack.disk c.args.rack.now in
    let d1 = g.R.Rack.disk c.close_slot.new.rack in
    let d2 = g.R.Rack.disk c.write_body.new.rack in
    let d3 = g.R.Rack.disk c.open_slot.new.rack in
    let slot = c.args.anchor.now.slot in
    let names = c.in-Some.ensures.value in
    on_ok_weaker c.open_slot.result (λ settled.
    has_written c.args.anchor.now c.requires.whole d0 d1 (subst (λ (v : ℕ). OnlyWrites d0 d1 (IsGate v slot)) names c.close_slot.ensures.writes)
    (λ told. subst (λ (v : ℕ). Settles v (8192 + 4096 * slot) closed d0.now d1.now) names (c.in_ok-close_slot.ensures.settled told))
    d2 (subst (λ (v : ℕ). OnlyWrites d1 d2 (IsBody v slot)) names c.write_body.ensures.writes)
    c.encode.result (omega arith) c.encode.ensures.reads_back
    (λ told. subst (λ (v : ℕ). Settles v (8192 + 4096 * slot + 512) c.encode.result d1.now d2.now) names (c.in_ok-write_body.ensures.settled told))
    d3 (subst (λ (v : ℕ). OnlyWrites d2 d3 (IsGate v slot)) names c.open_slot.ensures.writes)
    (g.met.R.Rack.holds_bytes c.args.rack.now) c.requires.pages c.requires.next c.encode.ensures.body
    (λ told. subst (λ (v : ℕ). Settles v (8192 + 4096 * slot) opened d2.now d3.now) names (settled told))) c.open_slot.ensures.settled
