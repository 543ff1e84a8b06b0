use Rattle.std.proofs.Common.{◌∙◌, ap}
use Rattle.index_row_faults.specs.extent_records.Rows.{runs_of}
use Rattle.index_row_faults.proofs.OfFilesetShapes.Answered.{if_ok}
use Rattle.slot_files.specs.Said.{runs_there}
use Rattle.slot_files.proofs.ReadFiles.{chain_places}
use Rattle.slot_files.proofs.chains.places_at.Goals as goal

pub returns-in_ok-runs-in-Ok : goal.returns-in_ok-runs-in-Ok
returns-in_ok-runs-in-Ok g c =
    let said = ap runs_there c.deref.ensures.value ∙ c.in_ok-runs-in-Ok.ensures ∙ ap runs_of c.as_slice.ensures in
    if_ok c.places_said.result _ _
    (λ places listed. chain_places (g.M.MetaPages.pages c.args.pages.now) c.args.at.now c.in-Ok.records c.deref.result.now places.items c.in-Ok.ensures.whole said listed) c.places_said.ensures
