use Rattle.std.proofs.Common.{◌≡◌, ◌∙◌, ◌<◌, List, IsSome, false, get_or, length, Contains, ap, subst, sym, arith}
use Rattle.std.specs.List.{AllByRecursion}
use Rattle.free_cells.specs.domain_base.declared.place.CellAt.{CellAt}
use Rattle.free_cells.specs.page_store.Pages.{same_home}
use Rattle.free_cells.specs.cell_records.declared.record.Record.{Record}
use Rattle.free_cells.specs.metadata_cells.CellPage.{home_of}
use Rattle.free_cells.specs.metadata_cells.Chain.{places}
use Rattle.extent_records.specs.extent_maps.declared.run.PagePlace.TheVariants.{At}
use Rattle.extent_records.specs.extent_maps.Runs.{home_at}
use Rattle.extent_records.specs.Chains.{Finds, IsNone}
use Rattle.extent_records.specs.Writing.{IsMapRecord}
use Rattle.file_chains.specs.MapChanges.{HasPage}
use Rattle.file_chains.proofs.ChainChanges.{at_apart, in_place}
use Rattle.file_chains.proofs.Chosen.{all_at, lists_long, picked}
use Rattle.file_chains.proofs.Switched.{among, found_is, found_within, map_if, maps_all, shown, some_has}
use Rattle.file_chains.proofs.switching.switch_in_records.Goals as goal

pub holder-requires : goal.holder-requires
holder-requires g c =
    let chain = c.requires.file.0 in
    let is = c.requires.file.1 in
    subst (AllByRecursion IsMapRecord) (sym (c.as_slice.ensures.value ∙ c.in_ok-maps.ensures.records chain is)) (maps_all (g.M.MetaPages.pages c.args.pages.now) c.args.start chain is)

pub returns-in_default-clause-full : goal.returns-in_default-clause-full
returns-in_default-clause-full g c = λ chain is _.
    absurd (some_has c.args.page chain (c.requires.there chain is)
    (subst (IsNone (HasPage c.args.page)) (c.as_slice.ensures.value ∙ c.in_ok-maps.ensures.records chain is) (subst (Finds (HasPage c.args.page) c.as_slice.result.now) c.in_default.is c.holder.ensures)))

pub index-requires : goal.index-requires
index-requires g c =
    let chain = c.requires.file.0 in
    let is = c.requires.file.1 in
    omega (
      arith,
      found_within (HasPage c.args.page) c.as_slice.result.now c.in-Some.i (subst (Finds (HasPage c.args.page) c.as_slice.result.now) c.in-Some.is c.holder.ensures),
      c.in_ok-maps.maps.places.ok,
      ap length (c.as_slice.ensures.value ∙ c.in_ok-maps.ensures.records chain is),
      lists_long (g.M.MetaPages.pages c.args.pages.now) c.args.start chain is,
      ap length (c.in_ok-maps.ensures.places chain is),
    )

pub switch_at-requires-clause-map : goal.switch_at-requires-clause-map
switch_at-requires-clause-map g c =
    let chain = c.requires.file.0 in
    let is = c.requires.file.1 in
    let p = picked (g.M.MetaPages.pages c.args.pages.now) c.args.start chain is c.in-Some.i c.index.result.now c.index-2.result.now c.in_ok-maps.maps.places.items c.in_ok-maps.maps.records.items
    (c.in_ok-maps.ensures.places chain is) (c.in_ok-maps.ensures.records chain is)
    (subst (λ (rs : List Record). c.in-Some.i < length rs) c.as_slice.ensures.value
    (found_within (HasPage c.args.page) c.as_slice.result.now c.in-Some.i (subst (Finds (HasPage c.args.page) c.as_slice.result.now) c.in-Some.is c.holder.ensures)))
    (sym c.index.ensures) (sym c.index-2.ensures) in
    record { cell = p.cell; stands = p.stands; map = p.map }

pub switch_at-requires-clause-there : goal.switch_at-requires-clause-there
switch_at-requires-clause-there g c =
    let chain = c.requires.file.0 in
    let is = c.requires.file.1 in
    let p = picked (g.M.MetaPages.pages c.args.pages.now) c.args.start chain is c.in-Some.i c.index.result.now c.index-2.result.now c.in_ok-maps.maps.places.items c.in_ok-maps.maps.records.items
    (c.in_ok-maps.ensures.places chain is) (c.in_ok-maps.ensures.records chain is)
    (subst (λ (rs : List Record). c.in-Some.i < length rs) c.as_slice.ensures.value
    (found_within (HasPage c.args.page) c.as_slice.result.now c.in-Some.i (subst (Finds (HasPage c.args.page) c.as_slice.result.now) c.in-Some.is c.holder.ensures)))
    (sym c.index.ensures) (sym c.index-2.ensures) in
    subst (λ x. IsSome (home_at x)) (shown (g.M.MetaPages.pages c.args.pages.now) c.args.start chain is c.in-Some.i c.index.result.now c.index-2.result.now c.args.page p (found_is (HasPage c.args.page) c.as_slice.result.now c.in-Some.i c.index-2.result.now (subst (Finds (HasPage c.args.page) c.as_slice.result.now) c.in-Some.is c.holder.ensures) (ap (λ (rs : List Record). get_or rs c.in-Some.i c.index-2.result.now) c.as_slice.ensures.value ∙ sym c.index-2.ensures))) (c.requires.there chain is)

pub returns-clause-switched : goal.returns-clause-switched
returns-clause-switched g c = λ chain is.
    let p = picked (g.M.MetaPages.pages c.args.pages.now) c.args.start chain is c.in-Some.i c.index.result.now c.index-2.result.now c.in_ok-maps.maps.places.items c.in_ok-maps.maps.records.items
    (c.in_ok-maps.ensures.places chain is) (c.in_ok-maps.ensures.records chain is)
    (subst (λ (rs : List Record). c.in-Some.i < length rs) c.as_slice.ensures.value
    (found_within (HasPage c.args.page) c.as_slice.result.now c.in-Some.i (subst (Finds (HasPage c.args.page) c.as_slice.result.now) c.in-Some.is c.holder.ensures)))
    (sym c.index.ensures) (sym c.index-2.ensures) in
    let there = shown (g.M.MetaPages.pages c.args.pages.now) c.args.start chain is c.in-Some.i c.index.result.now c.index-2.result.now c.args.page p (found_is (HasPage c.args.page) c.as_slice.result.now c.in-Some.i c.index-2.result.now (subst (Finds (HasPage c.args.page) c.as_slice.result.now) c.in-Some.is c.holder.ensures) (ap (λ (rs : List Record). get_or rs c.in-Some.i c.index-2.result.now) c.as_slice.ensures.value ∙ sym c.index-2.ensures)) in
    map_if c.switch_at.result (λ done changes yes.
    in_place (g.M.MetaPages.pages c.args.pages.now) (g.M.MetaPages.pages c.switch_at.new.pages) c.index.result.now c.index-2.result.now c.args.page (At c.args.home) (changes yes) c.switch_at.ensures.others
    c.args.start chain is c.in-Some.i p there) c.switch_at.ensures.ok

pub returns-clause-full : goal.returns-clause-full
returns-clause-full g c = λ chain is.
    let p = picked (g.M.MetaPages.pages c.args.pages.now) c.args.start chain is c.in-Some.i c.index.result.now c.index-2.result.now c.in_ok-maps.maps.places.items c.in_ok-maps.maps.records.items
    (c.in_ok-maps.ensures.places chain is) (c.in_ok-maps.ensures.records chain is)
    (subst (λ (rs : List Record). c.in-Some.i < length rs) c.as_slice.ensures.value
    (found_within (HasPage c.args.page) c.as_slice.result.now c.in-Some.i (subst (Finds (HasPage c.args.page) c.as_slice.result.now) c.in-Some.is c.holder.ensures)))
    (sym c.index.ensures) (sym c.index-2.ensures) in
    map_if c.switch_at.result (λ done refused no. (c.index-2.result.now, among (g.M.MetaPages.pages c.args.pages.now) c.in-Some.i c.index.result.now c.index-2.result.now chain p, found_is (HasPage c.args.page) c.as_slice.result.now c.in-Some.i c.index-2.result.now (subst (Finds (HasPage c.args.page) c.as_slice.result.now) c.in-Some.is c.holder.ensures) (ap (λ (rs : List Record). get_or rs c.in-Some.i c.index-2.result.now) c.as_slice.ensures.value ∙ sym c.index-2.ensures), refused no)) c.switch_at.ensures.full

pub returns-clause-others : goal.returns-clause-others
returns-clause-others g c = λ chain is.
    let p = picked (g.M.MetaPages.pages c.args.pages.now) c.args.start chain is c.in-Some.i c.index.result.now c.index-2.result.now c.in_ok-maps.maps.places.items c.in_ok-maps.maps.records.items
    (c.in_ok-maps.ensures.places chain is) (c.in_ok-maps.ensures.records chain is)
    (subst (λ (rs : List Record). c.in-Some.i < length rs) c.as_slice.ensures.value
    (found_within (HasPage c.args.page) c.as_slice.result.now c.in-Some.i (subst (Finds (HasPage c.args.page) c.as_slice.result.now) c.in-Some.is c.holder.ensures)))
    (sym c.index.ensures) (sym c.index-2.ensures) in
    λ q apart. c.switch_at.ensures.others q (at_apart c.index.result.now q (λ same. apart (subst (Contains (places chain)) same p.inside)))

pub returns-clause-elsewhere : goal.returns-clause-elsewhere
returns-clause-elsewhere g c = λ chain is home all.
    let p = picked (g.M.MetaPages.pages c.args.pages.now) c.args.start chain is c.in-Some.i c.index.result.now c.index-2.result.now c.in_ok-maps.maps.places.items c.in_ok-maps.maps.records.items
    (c.in_ok-maps.ensures.places chain is) (c.in_ok-maps.ensures.records chain is)
    (subst (λ (rs : List Record). c.in-Some.i < length rs) c.as_slice.ensures.value
    (found_within (HasPage c.args.page) c.as_slice.result.now c.in-Some.i (subst (Finds (HasPage c.args.page) c.as_slice.result.now) c.in-Some.is c.holder.ensures)))
    (sym c.index.ensures) (sym c.index-2.ensures) in
    c.switch_at.ensures.elsewhere home (all_at (λ (at : CellAt). same_home home (home_of at) ≡ false) chain c.index.result.now all p.inside)
