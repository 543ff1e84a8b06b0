use Rattle.std.proofs.Common.{◌∙◌, ap, subst, sym}
use Rattle.free_cells.specs.cell_records.declared.record.Record.{Record}
use Rattle.extent_records.specs.Writing.{IsMapRecord, places_in}
use Rattle.file_chains.proofs.MapRecords.{some_is}
use Rattle.file_chains.proofs.walking.place_at.Goals as goal

pub place_in-requires : goal.place_in-requires
place_in-requires g c =
    subst IsMapRecord (some_is c.requires.value c.in-Some.value (sym (c.map_record.ensures c.requires.cell c.requires.value c.requires.stands c.requires.map) ∙ c.in-Some.is)) c.requires.map.is_map

pub returns-in-Some : goal.returns-in-Some
returns-in-Some g c = λ cell value stands has.
    c.place_in.ensures ∙ ap (λ (r : Record). places_in r c.args.page) (sym (some_is value c.in-Some.value (sym (c.map_record.ensures cell value stands has) ∙ c.in-Some.is)))
