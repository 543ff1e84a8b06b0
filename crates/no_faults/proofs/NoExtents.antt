-- Where a domain stands, no cell says a wrong page of a file.
use Rattle.std.proofs.Common.{◌≡◌, ◌∙◌, ℕ, ◌∷◌, Some, slice_get, sym, ap, subst, ⊎_elim}
use Rattle.std.proofs.lemmas.Bool.{cases_order}
use Rattle.domain_memory.specs.domain_base.declared.place.CellAt.{CellAt}
use Rattle.domain_memory.specs.domain_base.declared.place.Home.{Home}
use Rattle.domain_memory.specs.cell_records.declared.record.Record.{Record}
use Rattle.domain_memory.specs.metadata_cells.Chain.{PlacedCell}
use Rattle.domain_memory.specs.extent_maps.declared.run.PagePlace.TheVariants.{Absent, At}
use Rattle.domain_memory.specs.extent_records.Writing.{places_in}
use Rattle.domain_memory.specs.fileset_model.Filesets.{FilesetMap}
use Rattle.domain_memory.specs.domain_layout.Layout.{IsLayout, Layout}
use Rattle.domain_memory.specs.domain_layout.Owners.{BelongsTo, HasExtent, Owner, frame_of}
use Rattle.domain_memory.specs.domain_layout.PageRules.{IsExtentFault, IsWrongExtent}
use Rattle.domain_memory.proofs.OfDomainLayout.OnePage.{some_same}
use Rattle.domain_memory.specs.domain_standing.Domain.{DomainNow, layout_of}
use Rattle.domain_memory.specs.domain_standing.Holders.{Holder, Holds}
use Rattle.domain_memory.specs.domain_standing.Standing.{StandsDomain}
use Rattle.domain_memory.specs.standing_laws.Sound.{StandsSound}
use Rattle.no_faults.proofs.FaultOnTables.{may_be}
use Rattle.no_faults.proofs.OneLayout.{extent_here}
use Rattle.no_faults.proofs.Owners.{SaysPage, index_held, says_page}
use Rattle.no_faults.proofs.Twice.{no_page_twice}

placed : (r : Record) (page : ℕ) (home : Home) → places_in r page ≡ At home → ¬ places_in r page ≡ Absent
placed r page home is none = let e : Absent ≡ At home = sym none ∙ is in cc

same_start : (a b : CellAt) (p q : ℕ) → Holder.of_file a p ≡ Holder.of_file b q → a ≡ b
same_start a b p q same = cc

same_page : (a b : CellAt) (p q : ℕ) → Holder.of_file a p ≡ Holder.of_file b q → p ≡ q
same_page a b p q same = cc

module _ (d : DomainNow) (all : FilesetMap) (stands : StandsDomain d all) (sound : StandsSound d stands.files stands.indexes) where
  module _ (at : CellAt) (page : ℕ) (home : Home) (has : HasExtent d.pages (layout_of d) at page home) where
    x : SaysPage d all stands sound at page home has.value
    x = says_page d all stands sound at page home has

    one_holder : (other : Holder) → Holds d stands.files stands.indexes other home → Holder.of_file x.start page ≡ other
    one_holder other held = stands.owned.once home (Holder.of_file x.start page) other x.held held

    -- one cell of the chain says the page
    one_cell : (at' : CellAt) (has' : HasExtent d.pages (layout_of d) at' page home) (y : SaysPage d all stands sound at' page home has'.value) → x.start ≡ y.start → at' ≡ at
    one_cell at' has' y same =
        let chains : y.first ∷ y.rest ≡ x.first ∷ x.rest = some_same (y.first ∷ y.rest) (x.first ∷ x.rest) (sym y.there ∙ ap stands.files (sym same) ∙ x.there) in
        let y_in : slice_get (x.first ∷ x.rest) y.k ≡ Some y.c = ap (λ cs. slice_get cs y.k) (sym chains) ∙ y.in_chain in
        ⊎_elim (λ number. sym y.at_is ∙ ap (λ (c : PlacedCell). c.at) (some_same y.c x.c (sym y_in ∙ ap (slice_get (x.first ∷ x.rest)) (sym number) ∙ x.in_chain)) ∙ x.at_is)
        (λ apart. absurd (⊎_elim
        (λ less. no_page_twice (x.first ∷ x.rest) page (x.file.1.one_map.once page) x.k y.k x.c y.c has.value has'.value x.in_chain y_in less x.among y.among (placed has.value page home has.place) (placed has'.value page home has'.place))
        (λ more. no_page_twice (x.first ∷ x.rest) page (x.file.1.one_map.once page) y.k x.k y.c x.c has'.value has.value y_in x.in_chain more y.among x.among (placed has'.value page home has'.place) (placed has.value page home has.place)) apart))
        (cases_order x.k y.k)

    one_owner : (owner : Owner) → BelongsTo d.pages (layout_of d) owner home → owner ≡ Owner.of_file at page
    one_owner Owner.of_volume is = let e = one_holder Holder.of_volume is in absurd (cc)
    one_owner Owner.of_log is = let e = one_holder Holder.of_log is in absurd (cc)
    one_owner Owner.of_table is = let e = one_holder Holder.of_table is in absurd (cc)
    one_owner Owner.of_cells is = let e = one_holder Holder.of_cells is in absurd (cc)
    one_owner (Owner.of_tags number) is = let e = one_holder (Holder.of_tags number) is.has in absurd (cc)
    one_owner (Owner.of_index at' number) is = let e = one_holder (Holder.of_index at' number) (index_held d all stands sound at' number home is) in absurd (cc)
    one_owner (Owner.of_file at' page') is =
        let y = says_page d all stands sound at' page' home is in
        let same = one_holder (Holder.of_file y.start page') y.held in
        by_page page' (same_page x.start y.start page page' same) is (same_start x.start y.start page page' same)
      where
        by_page : (page' : ℕ) → page ≡ page' → (is : HasExtent d.pages (layout_of d) at' page' home) → x.start ≡ (says_page d all stands sound at' page' home is).start → Owner.of_file at' page' ≡ Owner.of_file at page
        by_page page' same is start =
            subst (λ q. (is : HasExtent d.pages (layout_of d) at' q home) → x.start ≡ (says_page d all stands sound at' q home is).start → Owner.of_file at' q ≡ Owner.of_file at page) same
            (λ is start. ap (λ a. Owner.of_file a page) (one_cell at' is (says_page d all stands sound at' page home is) start)) is start

  no_wrong : (at : CellAt) → ¬ IsWrongExtent d.pages (layout_of d) at
  no_wrong at w =
      let x = says_page d all stands sound at w.page w.home w.has in
      ⊎_elim (λ out. out (may_be d all stands sound (Holder.of_file x.start w.page) w.home x.held (λ same. cc) (λ same. cc)))
      (λ two. two.2 (one_owner at w.page w.home w.has two.0 two.1)) w.wrong

  pub no_extents : (layout : Layout) → frame_of layout ≡ d.frame → IsLayout d.pages layout → (home : Home) → ¬ IsExtentFault d.pages layout home
  no_extents layout same laid home fault = let here = extent_here d stands.tables layout same laid home fault in no_wrong here.0 here.2
