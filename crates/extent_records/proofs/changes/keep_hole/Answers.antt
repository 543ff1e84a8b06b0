use Rattle.extent_maps.specs.declared.run.PagePlace.TheVariants.{Hole}
use Rattle.extent_records.proofs.RecordLemmas.{suits_changed}
use Rattle.extent_records.proofs.changes.keep_hole.Goals as goal

pub write_map-requires-clause-suits : goal.write_map-requires-clause-suits
write_map-requires-clause-suits c =
    suits_changed c.args.value.now c.in_ok-map.map c.keep_hole.new.self c.args.page Hole c.requires.is_map c.in_ok-map.ensures c.in_ok-keep_hole.ensures.ok c.requires.holes
