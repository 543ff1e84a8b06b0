use Rattle.std.proofs.Common.{◌≡◌, ◌+◌, ◌-◌, ◌*◌, List, ℕ, length, take, drop, sym, ap, ◌∙◌, arith}
use Rattle.std.proofs.lemmas.Result.{on_ok_weaker}
use Rattle.log_ring.specs.Ring.{ring_byte}
use Rattle.meta_log.proofs.Bodies.{bytes-moved, written_behind}
use Rattle.meta_log.proofs.group.write_header_body.Goals as goal

pub returns-clause-written : goal.returns-clause-written
returns-clause-written g c =
    let anchor = c.args.anchor.now in
    let header = c.args.header.now in
    let at = ring_byte anchor c.args.place in
    let image = (g.R.Rack.disk c.write_blocks.new.rack).now.contents in
    let bytes = c.bytes.result.now in
    let block = c.ring_block.ensures.block in
    let from : 512 * (c.ring_block.result + 1) ≡ at + 512 = omega arith in
    let size : length header ≡ 8192 = ap (λ (l : List ℕ). length l) (sym c.bytes.ensures.value) ∙ c.bytes.ensures.len in
    let same : take (length bytes - 512) (drop 512 bytes) ≡ take (length header - 512) (drop 512 header) = ap (λ (l : List ℕ). take (length l - 512) (drop 512 l)) c.bytes.ensures.value in
    on_ok_weaker c.write_blocks.result (λ written told. written_behind image anchor c.args.place header size (bytes-moved image c.args.vol anchor.log_vol (512 * (c.ring_block.result + 1)) (at + 512) (take (length bytes - 512) (drop 512 bytes)) (take (length header - 512) (drop 512 header)) c.requires.vol from same (written told).written)) c.write_blocks.ensures.written
