use Rattle.std.proofs.Common.{◌∙◌, IfSome, IsSome, List, ap, subst, sym}
use Rattle.std.proofs.lemmas.Bool.{true≢false}
use Rattle.free_cells.specs.cell_records.declared.record.Record.{Record}
use Rattle.free_cells.specs.metadata_cells.Chain.{records_of}
use Rattle.extent_records.specs.extent_maps.Runs.{place_of}
use Rattle.extent_records.specs.Rows.{AreOneMap, IsMapOf, runs_of}
use Rattle.file_chains.proofs.Gathers.{one_map_file}
use Rattle.file_chains.proofs.MapRecords.{runs_by_map}
use Rattle.file_chains.proofs.maps.read_file_map.Goals as goal

pub returns-in-Some : goal.returns-in-Some
returns-in-Some g c = λ cells is page.
    let map = subst (λ o. IfSome o (IsMapOf c.as_slice.result.now)) c.in-Some.is c.in_ok-map.ensures.map in
    map page ∙ ap (λ (rs : List Record). place_of (runs_of rs) page) (c.as_slice.ensures.value ∙ c.in_ok-found.ensures.records cells is)
    ∙ sym (ap (λ rs. place_of rs page) (runs_by_map (records_of cells)))

pub returns : goal.returns
returns g c = λ cells is page.
    absurd (true≢false (sym (subst (λ o. IsSome o) c.in-None.is
    (c.in_ok-map.ensures.some.1 (subst AreOneMap (sym (c.as_slice.ensures.value ∙ c.in_ok-found.ensures.records cells is)) (one_map_file (g.M.MetaPages.pages c.args.pages.now) c.args.start cells is))))))
