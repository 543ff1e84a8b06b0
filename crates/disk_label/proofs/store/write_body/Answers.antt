use Rattle.std.proofs.Common.{◌+◌, ◌*◌, length, arith}
use Rattle.std.proofs.lemmas.Result.{on_ok_weaker}
use Rattle.volume_disk.proofs.Laws.{only_writes-within, Settles-moved}
use Rattle.disk_label.proofs.store.write_body.Goals as goal

pub returns-clause-writes : goal.returns-clause-writes
returns-clause-writes g c =
    only_writes-within (g.R.Rack.disk c.args.rack.now) (g.R.Rack.disk c.write_synced.new.rack) c.args.vol (512 * (c.gate_block.result + 1)) (length c.args.body.now) c.args.vol (8192 + 4096 * c.args.slot + 512) 3584 (λ _. c.args.vol)
    (omega (arith, c.gate_block.ensures.block)) (omega (arith, c.gate_block.ensures.block)) c.write_synced.ensures.writes

pub returns-clause-settled : goal.returns-clause-settled
returns-clause-settled g c =
    let old = (g.R.Rack.disk c.args.rack.now).now in
    let new = (g.R.Rack.disk c.write_synced.new.rack).now in
    on_ok_weaker c.write_synced.result
    (λ settled told. Settles-moved c.args.vol (512 * (c.gate_block.result + 1)) c.args.vol (8192 + 4096 * c.args.slot + 512) c.args.body.now old new (λ _. c.args.vol) (omega (arith, c.gate_block.ensures.block)) (settled told)) c.write_synced.ensures.settled
