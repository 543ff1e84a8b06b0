use Rattle.std.proofs.Common.{arith}
use Rattle.extent_maps.specs.declared.run.PagePlace.TheVariants.{At}
use Rattle.cell_records.specs.Records.{kind_of}
use Rattle.extent_records.specs.Writing.{places_in}
use Rattle.extent_records.proofs.RecordLemmas.{has_home, suits_changed, suits_record}
use Rattle.extent_records.proofs.changes.switch_page.Goals as goal

pub write_map-requires-clause-suits : goal.write_map-requires-clause-suits
write_map-requires-clause-suits c =
    let old = c.args.value.now in
    let volume = c.number.ensures in
    let extents = has_home (kind_of old) (places_in old c.args.page) (suits_record old c.args.page c.requires.is_map) c.requires.there in
    suits_changed old c.in_ok-map.map c.switch.new.self c.args.page (At c.args.home) c.requires.is_map c.in_ok-map.ensures c.in_ok-switch.ensures.ok
    (extents, (omega (arith, volume.value, volume.range.0), omega (arith, volume.value, volume.range.1)))
