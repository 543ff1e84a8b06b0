use Rattle.std.proofs.Common.{arith}
use Rattle.extent_maps.specs.declared.run.PagePlace.TheVariants.{At}
use Rattle.extent_records.proofs.RecordLemmas.{suits_changed}
use Rattle.extent_records.proofs.changes.put_page.Goals as goal

pub write_map-requires-clause-suits : goal.write_map-requires-clause-suits
write_map-requires-clause-suits c =
    let volume = c.number.ensures in
    suits_changed c.args.value.now c.in_ok-map.map c.put.new.self c.args.page (At c.args.home) c.requires.is_map c.in_ok-map.ensures c.in_ok-put.ensures.ok
    (c.requires.extents, (omega (arith, volume.value, volume.range.0), omega (arith, volume.value, volume.range.1)))
