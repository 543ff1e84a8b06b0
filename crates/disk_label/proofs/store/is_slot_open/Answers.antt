use Rattle.std.proofs.Common.{◌↔◌, ℕ, Bool, IsTrue, subst}
use Rattle.std.proofs.lemmas.Result.{IfOk-weaker}
use Rattle.volume_disk.specs.Gate.{IsOpenAt}
use Rattle.disk_label.proofs.store.is_slot_open.Goals as goal

pub returns-clause-gate : goal.returns-clause-gate
returns-clause-gate g c =
    let held = (g.R.Rack.disk c.args.rack.now).now.contents in
    IfOk-weaker c.read_gate.result _ _ (λ (found : Bool) shown told. subst (λ (at : ℕ). IsTrue found ↔ IsOpenAt held c.args.vol at) c.gate_block.ensures.block (shown told)) c.read_gate.ensures.gate
