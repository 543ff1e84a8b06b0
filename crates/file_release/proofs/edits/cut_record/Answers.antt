use Rattle.std.proofs.Common.{◌∙◌, ap, subst, sym}
use Rattle.fileset_files.specs.cell_records.declared.record.Record.{Record}
use Rattle.fileset_files.specs.cell_records.Records.{kind_of}
use Rattle.fileset_files.specs.extent_records.Writing.{IsMapRecord, places_before, places_in}
use Rattle.fileset_files.proofs.OfFileChains.MapRecords.{some_is}
use Rattle.file_release.proofs.edits.cut_record.Goals as goal

pub cut_from-requires : goal.cut_from-requires
cut_from-requires g c =
    let is = some_is c.requires.value c.unwrap-value.result (sym (c.map_record.ensures c.requires.cell c.requires.value c.requires.stands c.requires.map) ∙ c.unwrap-value.ensures) in
    subst IsMapRecord is c.requires.map.is_map

pub returns : goal.returns
returns g c = λ cell value stands has.
    let is = some_is c.unwrap-value.result value (sym c.unwrap-value.ensures ∙ c.map_record.ensures cell value stands has) in
    let least = c.in_ok-cut_from.ensures.ok in
    record {
      is_map = least.is_map;
      same_kind = least.says.of_kind ∙ ap kind_of is;
      at_page = λ p. least.says.same p ∙ ap (λ (r : Record). places_before c.args.from (places_in r) p) is;
    }
