use Rattle.std.proofs.Common.{◌∙◌, IfOk, subst, sym}
use Rattle.fileset_files.specs.cell_records.declared.record.Record.{Record}
use Rattle.fileset_files.specs.extent_maps.Runs.{SamePlaces}
use Rattle.fileset_files.specs.extent_records.Rows.{runs_in}
use Rattle.fileset_files.specs.extent_records.Writing.{IsMapRecord}
use Rattle.fileset_files.proofs.OfFileChains.MapRecords.{some_is}
use Rattle.file_release.proofs.stale.cell_map.Goals as goal

pub record_map-requires : goal.record_map-requires
record_map-requires g c =
    let is = some_is c.requires.value c.in-Some.value (sym (c.map_record.ensures c.requires.cell c.requires.value c.requires.stands c.requires.map) ∙ c.in-Some.is) in
    subst IsMapRecord is c.requires.map.is_map

pub returns-in-Some : goal.returns-in-Some
returns-in-Some g c = λ cell value stands has.
    let is = some_is c.in-Some.value value (sym c.in-Some.is ∙ c.map_record.ensures cell value stands has) in
    subst (λ (r : Record). IfOk c.record_map.result (λ map. SamePlaces (runs_in r) map)) is c.record_map.ensures
