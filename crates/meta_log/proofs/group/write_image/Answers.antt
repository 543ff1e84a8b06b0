use Rattle.std.proofs.Common.{◌*◌, refl, ◌∙◌}
use Rattle.std.proofs.lemmas.Result.{on_ok_weaker}
use Rattle.log_ring.specs.Ring.{ring_byte}
use Rattle.log_ring.proofs.HomePages.{bytes_there}
use Rattle.meta_log.proofs.Bodies.{bytes-moved}
use Rattle.meta_log.proofs.group.write_image.Goals as goal

pub returns-clause-written : goal.returns-clause-written
returns-clause-written g c =
    let anchor = c.args.anchor.now in
    let page = c.args.image.now.page in
    let at = ring_byte anchor c.args.place in
    let image = (g.R.Rack.disk c.write_blocks.new.rack).now.contents in
    on_ok_weaker c.write_blocks.result (λ written told. (bytes_there anchor.log_vol at 8192 c.bytes.result.now image c.bytes.ensures.len
    (bytes-moved image c.args.vol anchor.log_vol (512 * c.ring_block.result) at c.bytes.result.now c.bytes.result.now c.requires.vol c.ring_block.ensures.block refl (written told).written)) ∙ c.bytes.ensures.value) c.write_blocks.ensures.written
