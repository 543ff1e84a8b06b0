use Rattle.std.proofs.Common.{◌≡◌, ◌∙◌, ◌<◌, List, false, length, ap, refl, subst, sym, arith}
use Rattle.std.specs.List.{AllByRecursion}
use Rattle.free_cells.specs.domain_base.declared.place.CellAt.{CellAt}
use Rattle.free_cells.specs.page_store.Pages.{same_home}
use Rattle.free_cells.specs.cell_records.declared.record.Record.{Record}
use Rattle.free_cells.specs.metadata_cells.CellPage.{home_of}
use Rattle.extent_records.specs.extent_maps.declared.run.PagePlace.TheVariants.{At}
use Rattle.extent_records.specs.Chains.{CanTake, IsChoice}
use Rattle.file_chains.proofs.ChainChanges.{apart_stays, can_take_all, in_place}
use Rattle.file_chains.proofs.Chosen.{absent_value, all_at, choice_within, lists_long, picked}
use Rattle.file_chains.proofs.FewPages.{none_changes, one_changes}
use Rattle.file_chains.proofs.putting.put_in_records.Goals as goal

pub record_for-requires-clause-records : goal.record_for-requires-clause-records
record_for-requires-clause-records g c =
    let chain = c.requires.file.0 in
    let is = c.requires.file.1 in
    subst (AllByRecursion (CanTake c.args.page)) (sym (c.as_slice.ensures.value ∙ c.in_ok-maps.ensures.records chain is))
    (can_take_all (g.M.MetaPages.pages c.args.pages.now) c.args.start c.args.page chain is (c.requires.absent chain is))

pub index-requires : goal.index-requires
index-requires g c =
    let chain = c.requires.file.0 in
    let is = c.requires.file.1 in
    let within = choice_within c.args.page c.in-Some.i (At c.args.home) c.as_slice.result.now (subst (IsChoice c.args.page (At c.args.home) c.as_slice.result.now) c.in-Some.is c.in_ok-i.ensures) in
    omega (
      arith,
      within,
      c.in_ok-maps.maps.places.ok,
      ap length (c.as_slice.ensures.value ∙ c.in_ok-maps.ensures.records chain is),
      lists_long (g.M.MetaPages.pages c.args.pages.now) c.args.start chain is,
      ap length (c.in_ok-maps.ensures.places chain is),
    )

pub put_at-requires-clause-map : goal.put_at-requires-clause-map
put_at-requires-clause-map g c =
    let chain = c.requires.file.0 in
    let is = c.requires.file.1 in
    let p = picked (g.M.MetaPages.pages c.args.pages.now) c.args.start chain is c.in-Some.i c.index.result.now c.index-2.result.now c.in_ok-maps.maps.places.items c.in_ok-maps.maps.records.items
    (c.in_ok-maps.ensures.places chain is) (c.in_ok-maps.ensures.records chain is)
    (subst (λ (rs : List Record). c.in-Some.i < length rs) c.as_slice.ensures.value
    (choice_within c.args.page c.in-Some.i (At c.args.home) c.as_slice.result.now (subst (IsChoice c.args.page (At c.args.home) c.as_slice.result.now) c.in-Some.is c.in_ok-i.ensures)))
    (sym c.index.ensures) (sym c.index-2.ensures) in
    record { cell = p.cell; stands = p.stands; map = p.map }

pub put_at-requires-clause-absent : goal.put_at-requires-clause-absent
put_at-requires-clause-absent g c =
    let chain = c.requires.file.0 in
    let is = c.requires.file.1 in
    let p = picked (g.M.MetaPages.pages c.args.pages.now) c.args.start chain is c.in-Some.i c.index.result.now c.index-2.result.now c.in_ok-maps.maps.places.items c.in_ok-maps.maps.records.items
    (c.in_ok-maps.ensures.places chain is) (c.in_ok-maps.ensures.records chain is)
    (subst (λ (rs : List Record). c.in-Some.i < length rs) c.as_slice.ensures.value
    (choice_within c.args.page c.in-Some.i (At c.args.home) c.as_slice.result.now (subst (IsChoice c.args.page (At c.args.home) c.as_slice.result.now) c.in-Some.is c.in_ok-i.ensures)))
    (sym c.index.ensures) (sym c.index-2.ensures) in
    absent_value (g.M.MetaPages.pages c.args.pages.now) c.args.start chain is c.in-Some.i c.index.result.now c.index-2.result.now c.args.page p (c.requires.absent chain is)

pub returns-clause-put : goal.returns-clause-put
returns-clause-put g c = λ chain is _.
    let p = picked (g.M.MetaPages.pages c.args.pages.now) c.args.start chain is c.in-Some.i c.index.result.now c.index-2.result.now c.in_ok-maps.maps.places.items c.in_ok-maps.maps.records.items
    (c.in_ok-maps.ensures.places chain is) (c.in_ok-maps.ensures.records chain is)
    (subst (λ (rs : List Record). c.in-Some.i < length rs) c.as_slice.ensures.value
    (choice_within c.args.page c.in-Some.i (At c.args.home) c.as_slice.result.now (subst (IsChoice c.args.page (At c.args.home) c.as_slice.result.now) c.in-Some.is c.in_ok-i.ensures)))
    (sym c.index.ensures) (sym c.index-2.ensures) in
    let none = absent_value (g.M.MetaPages.pages c.args.pages.now) c.args.start chain is c.in-Some.i c.index.result.now c.index-2.result.now c.args.page p (c.requires.absent chain is) in
    in_place (g.M.MetaPages.pages c.args.pages.now) (g.M.MetaPages.pages c.put_at.new.pages) c.index.result.now c.index-2.result.now c.args.page (At c.args.home) c.in_ok-put_at.ensures.ok c.in_ok-put_at.ensures.others
    c.args.start chain is c.in-Some.i p (c.requires.absent chain is ∙ sym none)

pub returns-clause-others : goal.returns-clause-others
returns-clause-others g c = λ chain is.
    let p = picked (g.M.MetaPages.pages c.args.pages.now) c.args.start chain is c.in-Some.i c.index.result.now c.index-2.result.now c.in_ok-maps.maps.places.items c.in_ok-maps.maps.records.items
    (c.in_ok-maps.ensures.places chain is) (c.in_ok-maps.ensures.records chain is)
    (subst (λ (rs : List Record). c.in-Some.i < length rs) c.as_slice.ensures.value
    (choice_within c.args.page c.in-Some.i (At c.args.home) c.as_slice.result.now (subst (IsChoice c.args.page (At c.args.home) c.as_slice.result.now) c.in-Some.is c.in_ok-i.ensures)))
    (sym c.index.ensures) (sym c.index-2.ensures) in
    apart_stays (g.M.MetaPages.pages c.args.pages.now) (g.M.MetaPages.pages c.put_at.new.pages) c.index.result.now c.index-2.result.now c.args.page (At c.args.home) c.in_ok-put_at.ensures.ok c.in_ok-put_at.ensures.others chain p.inside

pub returns-clause-elsewhere : goal.returns-clause-elsewhere
returns-clause-elsewhere g c = λ chain is home all.
    let p = picked (g.M.MetaPages.pages c.args.pages.now) c.args.start chain is c.in-Some.i c.index.result.now c.index-2.result.now c.in_ok-maps.maps.places.items c.in_ok-maps.maps.records.items
    (c.in_ok-maps.ensures.places chain is) (c.in_ok-maps.ensures.records chain is)
    (subst (λ (rs : List Record). c.in-Some.i < length rs) c.as_slice.ensures.value
    (choice_within c.args.page c.in-Some.i (At c.args.home) c.as_slice.result.now (subst (IsChoice c.args.page (At c.args.home) c.as_slice.result.now) c.in-Some.is c.in_ok-i.ensures)))
    (sym c.index.ensures) (sym c.index-2.ensures) in
    c.in_ok-put_at.ensures.elsewhere home (all_at (λ (at : CellAt). same_home home (home_of at) ≡ false) chain c.index.result.now all p.inside)

pub returns-in_default-clause-few : goal.returns-in_default-clause-few
returns-in_default-clause-few g c = none_changes 1 (g.M.MetaPages.pages c.args.pages.now) (g.M.MetaPages.pages c.args.pages.now) refl

pub returns-clause-few : goal.returns-clause-few
returns-clause-few g c =
    one_changes (g.M.MetaPages.pages c.args.pages.now) (g.M.MetaPages.pages c.put_at.new.pages) (home_of c.index.result.now) c.in_ok-put_at.ensures.elsewhere
