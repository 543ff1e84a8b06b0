use Rattle.std.proofs.Common.{◌∙◌, ◌<◌, List, IsSome, get_or, length, Contains, ap, subst, sym, arith}
use Rattle.std.specs.List.{AllByRecursion}
use Rattle.free_cells.specs.domain_base.declared.place.CellAt.{CellAt}
use Rattle.free_cells.specs.page_store.Pages.{Pages}
use Rattle.free_cells.specs.cell_records.declared.record.Record.{Record}
use Rattle.free_cells.specs.metadata_cells.Chain.{StandsAt}
use Rattle.extent_records.specs.extent_maps.declared.run.PagePlace.TheVariants.{At}
use Rattle.extent_records.specs.extent_maps.Runs.{home_at}
use Rattle.extent_records.proofs.OfExtentMaps.EditLemmas.{on_ok}
use Rattle.extent_records.specs.Chains.{Finds, IsNone}
use Rattle.extent_records.specs.Writing.{IsMapRecord}
use Rattle.free_cells.specs.Cells.{table_of}
use Rattle.file_chains.specs.MapChanges.{HasPage}
use Rattle.file_chains.proofs.Chosen.{all_at, lists_long, picked}
use Rattle.file_chains.proofs.Halves.{by_result}
use Rattle.file_chains.proofs.Parted.{others_stay_parted, parted}
use Rattle.file_chains.proofs.Switched.{found_is, found_within, maps_all, shown, some_has}
use Rattle.file_chains.proofs.moving.switch_in_new_cell.Goals as goal

pub holder-requires : goal.holder-requires
holder-requires g c =
    let chain = c.requires.file.0 in
    let is = c.requires.file.1 in
    subst (AllByRecursion IsMapRecord) (sym (c.as_slice.ensures.value ∙ c.in_ok-maps.ensures.records chain is)) (maps_all (g.M.MetaPages.pages c.args.pages.now) c.args.start.now chain is)

pub returns-in_default-clause-ok : goal.returns-in_default-clause-ok
returns-in_default-clause-ok g c = λ chain is.
    absurd (some_has c.args.page chain (c.requires.there chain is)
    (subst (IsNone (HasPage c.args.page)) (c.as_slice.ensures.value ∙ c.in_ok-maps.ensures.records chain is) (subst (Finds (HasPage c.args.page) c.as_slice.result.now) c.in_default.is c.holder.ensures)))

pub returns-in_default-clause-taken : goal.returns-in_default-clause-taken
returns-in_default-clause-taken g c =
    let chain = c.requires.file.0 in
    let is = c.requires.file.1 in
    absurd (some_has c.args.page chain (c.requires.there chain is)
    (subst (IsNone (HasPage c.args.page)) (c.as_slice.ensures.value ∙ c.in_ok-maps.ensures.records chain is) (subst (Finds (HasPage c.args.page) c.as_slice.result.now) c.in_default.is c.holder.ensures)))

pub index-requires : goal.index-requires
index-requires g c =
    let chain = c.requires.file.0 in
    let is = c.requires.file.1 in
    omega (
      arith,
      found_within (HasPage c.args.page) c.as_slice.result.now c.in-Some.i (subst (Finds (HasPage c.args.page) c.as_slice.result.now) c.in-Some.is c.holder.ensures),
      c.in_ok-maps.maps.places.ok,
      ap length (c.as_slice.ensures.value ∙ c.in_ok-maps.ensures.records chain is),
      lists_long (g.M.MetaPages.pages c.args.pages.now) c.args.start.now chain is,
      ap length (c.in_ok-maps.ensures.places chain is),
    )

pub part_cell-requires-clause-map : goal.part_cell-requires-clause-map
part_cell-requires-clause-map g c =
    let chain = c.requires.file.0 in
    let is = c.requires.file.1 in
    let p = picked (g.M.MetaPages.pages c.args.pages.now) c.args.start.now chain is c.in-Some.i c.index.result.now c.index-2.result.now c.in_ok-maps.maps.places.items c.in_ok-maps.maps.records.items
    (c.in_ok-maps.ensures.places chain is) (c.in_ok-maps.ensures.records chain is)
    (subst (λ (rs : List Record). c.in-Some.i < length rs) c.as_slice.ensures.value
    (found_within (HasPage c.args.page) c.as_slice.result.now c.in-Some.i (subst (Finds (HasPage c.args.page) c.as_slice.result.now) c.in-Some.is c.holder.ensures)))
    (sym c.index.ensures) (sym c.index-2.ensures) in
    record { cell = p.cell; stands = p.stands; map = p.map }

pub part_cell-requires-clause-table : goal.part_cell-requires-clause-table
part_cell-requires-clause-table g c =
    let chain = c.requires.file.0 in
    let is = c.requires.file.1 in
    let p = picked (g.M.MetaPages.pages c.args.pages.now) c.args.start.now chain is c.in-Some.i c.index.result.now c.index-2.result.now c.in_ok-maps.maps.places.items c.in_ok-maps.maps.records.items
    (c.in_ok-maps.ensures.places chain is) (c.in_ok-maps.ensures.records chain is)
    (subst (λ (rs : List Record). c.in-Some.i < length rs) c.as_slice.ensures.value
    (found_within (HasPage c.args.page) c.as_slice.result.now c.in-Some.i (subst (Finds (HasPage c.args.page) c.as_slice.result.now) c.in-Some.is c.holder.ensures)))
    (sym c.index.ensures) (sym c.index-2.ensures) in
    all_at (λ (at : CellAt). Contains (table_of c.args.cells.now at.vol) at.page) chain c.index.result.now (c.requires.tables chain is) p.inside

pub part_cell-requires-clause-there : goal.part_cell-requires-clause-there
part_cell-requires-clause-there g c =
    let chain = c.requires.file.0 in
    let is = c.requires.file.1 in
    let p = picked (g.M.MetaPages.pages c.args.pages.now) c.args.start.now chain is c.in-Some.i c.index.result.now c.index-2.result.now c.in_ok-maps.maps.places.items c.in_ok-maps.maps.records.items
    (c.in_ok-maps.ensures.places chain is) (c.in_ok-maps.ensures.records chain is)
    (subst (λ (rs : List Record). c.in-Some.i < length rs) c.as_slice.ensures.value
    (found_within (HasPage c.args.page) c.as_slice.result.now c.in-Some.i (subst (Finds (HasPage c.args.page) c.as_slice.result.now) c.in-Some.is c.holder.ensures)))
    (sym c.index.ensures) (sym c.index-2.ensures) in
    let there = shown (g.M.MetaPages.pages c.args.pages.now) c.args.start.now chain is c.in-Some.i c.index.result.now c.index-2.result.now c.args.page p
    (found_is (HasPage c.args.page) c.as_slice.result.now c.in-Some.i c.index-2.result.now (subst (Finds (HasPage c.args.page) c.as_slice.result.now) c.in-Some.is c.holder.ensures)
    (ap (λ (rs : List Record). get_or rs c.in-Some.i c.index-2.result.now) c.as_slice.ensures.value ∙ sym c.index-2.ensures)) in
    subst (λ x. IsSome (home_at x)) there (c.requires.there chain is)

pub returns-clause-ok : goal.returns-clause-ok
returns-clause-ok g c = λ chain is.
    let p = picked (g.M.MetaPages.pages c.args.pages.now) c.args.start.now chain is c.in-Some.i c.index.result.now c.index-2.result.now c.in_ok-maps.maps.places.items c.in_ok-maps.maps.records.items
    (c.in_ok-maps.ensures.places chain is) (c.in_ok-maps.ensures.records chain is)
    (subst (λ (rs : List Record). c.in-Some.i < length rs) c.as_slice.ensures.value
    (found_within (HasPage c.args.page) c.as_slice.result.now c.in-Some.i (subst (Finds (HasPage c.args.page) c.as_slice.result.now) c.in-Some.is c.holder.ensures)))
    (sym c.index.ensures) (sym c.index-2.ensures) in
    let there = shown (g.M.MetaPages.pages c.args.pages.now) c.args.start.now chain is c.in-Some.i c.index.result.now c.index-2.result.now c.args.page p
    (found_is (HasPage c.args.page) c.as_slice.result.now c.in-Some.i c.index-2.result.now (subst (Finds (HasPage c.args.page) c.as_slice.result.now) c.in-Some.is c.holder.ensures)
    (ap (λ (rs : List Record). get_or rs c.in-Some.i c.index-2.result.now) c.as_slice.ensures.value ∙ sym c.index-2.ensures)) in
    on_ok c.part_cell.result
    (λ parts. parted c.index.result.now c.index-2.result.now c.args.page (At c.args.home.now) c.args.version c.args.prefer c.args.space.now c.part_cell.new.space c.args.cells.now c.part_cell.new.cells (g.M.MetaPages.pages c.args.pages.now) (g.M.MetaPages.pages c.part_cell.new.pages)
    c.requires.allocated parts c.args.start.now chain is c.in-Some.i p (c.requires.tables chain is) there) c.part_cell.ensures.ok

pub returns-clause-others : goal.returns-clause-others
returns-clause-others g c = λ chain is.
    let p = picked (g.M.MetaPages.pages c.args.pages.now) c.args.start.now chain is c.in-Some.i c.index.result.now c.index-2.result.now c.in_ok-maps.maps.places.items c.in_ok-maps.maps.records.items
    (c.in_ok-maps.ensures.places chain is) (c.in_ok-maps.ensures.records chain is)
    (subst (λ (rs : List Record). c.in-Some.i < length rs) c.as_slice.ensures.value
    (found_within (HasPage c.args.page) c.as_slice.result.now c.in-Some.i (subst (Finds (HasPage c.args.page) c.as_slice.result.now) c.in-Some.is c.holder.ensures)))
    (sym c.index.ensures) (sym c.index-2.ensures) in
    by_result c.part_cell.result c.part_cell.ensures.ok c.part_cell.ensures.pages
    (λ parts. others_stay_parted c.index.result.now c.index-2.result.now c.args.page (At c.args.home.now) c.args.version c.args.prefer c.args.space.now c.part_cell.new.space c.args.cells.now c.part_cell.new.cells (g.M.MetaPages.pages c.args.pages.now) (g.M.MetaPages.pages c.part_cell.new.pages)
    c.requires.allocated parts chain p.inside)
    (λ same. λ q cell stands on apart. subst (λ (pages : Pages). StandsAt pages q cell) (sym same) stands)
