use Rattle.std.proofs.Common.{◌∙◌, ◌++◌, [], ◌∷◌, ap, sym}
use Rattle.free_cells.specs.cell_records.declared.record.Record.{Record}
use Rattle.file_chains.proofs.MapRecords.{some_is}
use Rattle.file_chains.proofs.maps.push_map.Goals as goal

pub returns-in_ok-push-2-clause-records : goal.returns-in_ok-push-2-clause-records
returns-in_ok-push-2-clause-records g c = λ cell value stands has.
    c.in_ok-push-2.ensures.items ∙ ap (λ (r : Record). c.args.found.now.records.items ++ r ∷ []) (some_is c.in-Some.value value (sym c.in-Some.is ∙ c.map_record.ensures cell value stands has))
