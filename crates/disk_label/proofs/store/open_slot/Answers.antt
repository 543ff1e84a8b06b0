use Rattle.std.proofs.Common.{ℕ, subst}
use Rattle.std.proofs.lemmas.Result.{on_ok_weaker}
use Rattle.volume_disk.specs.domain_base.Gate.{opened}
use Rattle.volume_disk.specs.Image.{IsIn}
use Rattle.volume_disk.specs.Run.{OnlyWrites, Settles}
use Rattle.disk_label.proofs.store.open_slot.Goals as goal

pub returns-clause-writes : goal.returns-clause-writes
returns-clause-writes g c =
    subst (λ (at : ℕ). OnlyWrites (g.R.Rack.disk c.args.rack.now) (g.R.Rack.disk c.open_gate.new.rack) (IsIn c.args.vol at 512)) c.gate_block.ensures.block c.open_gate.ensures.writes

pub returns-clause-settled : goal.returns-clause-settled
returns-clause-settled g c =
    let old = (g.R.Rack.disk c.args.rack.now).now in
    let new = (g.R.Rack.disk c.open_gate.new.rack).now in
    on_ok_weaker c.open_gate.result (λ settled told. subst (λ (at : ℕ). Settles c.args.vol at opened old new) c.gate_block.ensures.block (settled told)) c.open_gate.ensures.settled
