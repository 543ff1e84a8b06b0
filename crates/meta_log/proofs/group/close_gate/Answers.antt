use Rattle.std.proofs.Common.{◌*◌}
use Rattle.std.proofs.lemmas.Result.{on_ok_weaker}
use Rattle.log_ring.specs.domain_base.Gate.{closed}
use Rattle.log_ring.specs.Ring.{ring_byte}
use Rattle.meta_log.proofs.Bodies.{bytes-moved, written_closed}
use Rattle.meta_log.proofs.group.close_gate.Goals as goal

pub returns-clause-closed : goal.returns-clause-closed
returns-clause-closed g c =
    let anchor = c.args.anchor.now in
    let at = ring_byte anchor c.args.place in
    let image = (g.R.Rack.disk c.write_blocks.new.rack).now.contents in
    on_ok_weaker c.write_blocks.result (λ written told. written_closed image anchor c.args.place (bytes-moved image c.args.vol anchor.log_vol (512 * c.ring_block.result) at c.closed_block.result closed c.requires.vol c.ring_block.ensures.block c.closed_block.ensures.value (written told).written)) c.write_blocks.ensures.written
