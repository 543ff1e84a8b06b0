use Rattle.std.proofs.Common.{◌*◌, sym, ◌∙◌}
use Rattle.volume_disk.proofs.Bytes.{first-bytes_at}
use Rattle.volume_disk.proofs.gate.read_gate.Goals as goal

pub returns-clause-gate : goal.returns-clause-gate
returns-clause-gate g c = λ told.
    let held = (g.R.Rack.disk c.args.rack.now).now.contents in
    let first = first-bytes_at held c.args.vol (512 * c.args.block) c.read_blocks.new.out (c.in_ok-read_blocks.ensures.bytes told) in
    (λ found. first ∙ c.is_open.ensures.0 found, λ is_open. c.is_open.ensures.1 (sym first ∙ is_open))
