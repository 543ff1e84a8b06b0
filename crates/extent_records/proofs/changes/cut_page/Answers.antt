use Rattle.extent_maps.specs.declared.run.PagePlace.TheVariants.{Absent}
use Rattle.extent_records.proofs.RecordLemmas.{suits_changed}
use Rattle.extent_records.proofs.changes.cut_page.Goals as goal

pub write_map-requires-clause-suits : goal.write_map-requires-clause-suits
write_map-requires-clause-suits c =
    suits_changed c.args.value.now c.in_ok-map.map c.cut.new.self c.args.page Absent c.requires c.in_ok-map.ensures c.in_ok-cut.ensures.ok tt
