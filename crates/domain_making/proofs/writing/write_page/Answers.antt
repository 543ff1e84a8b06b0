use Rattle.std.proofs.Common.{◌*◌, ℕ, length, sym, subst}
use Rattle.domain_layout.specs.volume_disk.Disk.{AreBlocks}
use Rattle.domain_layout.specs.volume_disk.Image.{IsIn}
use Rattle.domain_layout.specs.volume_disk.Run.{OnlyWrites}
use Rattle.domain_making.proofs.Regions.{are_blocks, on_pages}
use Rattle.domain_making.proofs.writing.write_page.Goals as goal

pub write_blocks-requires : goal.write_blocks-requires
write_blocks-requires g c =
    let disk = g.R.Rack.disk c.args.rack.now in
    subst (λ (v : ℕ). AreBlocks disk v (16 * c.args.page) (length c.args.bytes.now)) (sym c.first_volume.ensures)
    (are_blocks disk c.args.firsts.now c.args.page (length c.args.bytes.now) c.requires.there c.requires.room c.requires.high c.requires.whole c.requires.some)

pub returns-clause-writes : goal.returns-clause-writes
returns-clause-writes g c =
    let old = g.R.Rack.disk c.args.rack.now in
    let new = g.R.Rack.disk c.write_blocks.new.rack in
    on_pages old new c.args.firsts.now c.args.page (length c.args.bytes.now) c.requires.low c.requires.high
    (subst (λ (v : ℕ). OnlyWrites old new (IsIn v (512 * (16 * c.args.page)) (length c.args.bytes.now))) c.first_volume.ensures c.write_blocks.ensures.writes)
