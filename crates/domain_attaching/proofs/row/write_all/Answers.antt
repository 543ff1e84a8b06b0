use Rattle.std.proofs.Common.{◌≡◌, ◌∙◌, ℕ, ◌*◌, List, length}
use Rattle.std.proofs.lemmas.Result.{on_ok_weaker}
use Rattle.attached_domain.specs.volume_disk.Image.{IsIn}
use Rattle.attached_domain.proofs.OfVolumeDisk.Laws.{touches-wider}
use Rattle.attached_domain.specs.staged_pages.Store.{pages_of}
use Rattle.domain_attaching.specs.Closing.{IsOnRow}
use Rattle.domain_attaching.proofs.Rows.{row_written, whole_row}
use Rattle.domain_attaching.proofs.row.write_all.Goals as goal

pub returns-clause-touches : goal.returns-clause-touches
returns-clause-touches g c =
    let vol = c.args.vol in
    let first = c.args.first in
    let laid : List ℕ = c.lay_all.new.found in
    let size : length laid ≡ 8192 * c.args.count = c.lay_all.ensures.buffer ∙ c.requires.buffer in
    touches-wider (g.R.Rack.disk c.args.rack.now) (g.R.Rack.disk c.write_blocks.new.rack) (IsIn vol (512 * (16 * first)) (length laid)) (IsOnRow vol first c.args.count) (whole_row vol first c.args.count (length laid) size) c.write_blocks.ensures.writes.touches

pub returns-clause-there : goal.returns-clause-there
returns-clause-there g c =
    let laid : List ℕ = c.lay_all.new.found in
    let size : length laid ≡ 8192 * c.args.count = c.lay_all.ensures.buffer ∙ c.requires.buffer in
    on_ok_weaker c.write_blocks.result
    (λ wrote told. row_written (pages_of c.args.pages.now) (g.R.Rack.disk c.write_blocks.new.rack).now.contents c.args.vol c.args.first c.args.count laid size c.lay_all.ensures.laid (wrote told).written)
    c.write_blocks.ensures.written
