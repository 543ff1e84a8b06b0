-- Where no rule of tables is broken, the chain from the first cell of a file, or of quotas, is whole.
use Rattle.std.proofs.Common.{◌≡◌, ◌∙◌, ◌⊎◌, inl, inr, ℕ, true, false, List, [], ◌∷◌, ◌++◌, Some, Contains, IsSomeAnd, refl, sym, ap, subst, arith, ⊎_elim}
use Rattle.std.proofs.lemmas.Bool.{cases_Bool}
use Rattle.domain_layout.specs.domain_base.declared.place.CellAt.{CellAt}
use Rattle.domain_layout.specs.domain_base.declared.place.Tag.{Tag}
use Rattle.domain_layout.specs.page_store.Pages.{Pages}
use Rattle.domain_layout.specs.cell_records.Fields.{number_at}
use Rattle.domain_layout.specs.metadata_cells.Cell.{Cell, IsFreeCell, kind_number}
use Rattle.domain_layout.specs.metadata_cells.CellPage.{cell_at, cell_of, home_of}
use Rattle.domain_layout.specs.metadata_cells.Chain.{HasHeadAt, IsBroken, LeadsAstray, Path, PlacedCell, StandsAt, astray, bad_cell, begins, goes_on, may_follow, no_cell as nothing, places}
use Rattle.domain_layout.specs.metadata_cells.declared.head.CellKind.{CellKind}
use Rattle.domain_layout.specs.metadata_cells.declared.head.CellKind.TheVariants as kinds
use Rattle.domain_layout.proofs.OfMetadataCells.CellKinds.{used_not_zeros}
use Rattle.domain_layout.proofs.OfMetadataCells.Walk.{one_kind}
use Rattle.domain_layout.specs.CellRules as rule
use Rattle.domain_layout.specs.CellRules.{Follows, IsCellOf, IsChainHead, IsLink, IsPlace, LeadsTo, Link}
use Rattle.domain_layout.specs.Faults.{HasNoTablesFault}
use Rattle.domain_layout.specs.Layout.{IsLayout, Layout}
use Rattle.domain_layout.specs.Owners.{frame_of}
use Rattle.domain_layout.specs.TagRules.{IsFirstOf}
use Rattle.domain_layout.proofs.Named.{follows_on, link_of, link_to, no_cell}
use Rattle.domain_layout.proofs.OnePage.{some_same}
use Rattle.domain_layout.proofs.OwnedOnce.{no_cells}
use Rattle.filesets_reading.proofs.CellTables.{there_at}
use Rattle.filesets_reading.proofs.Ways.{map_pushed}

kind_some : (k : CellKind) → ¬ kind_number k ≡ 0
kind_some kinds.Primary is = omega (arith, is)
kind_some kinds.Chain is = omega (arith, is)
kind_some kinds.Quota is = omega (arith, is)
kind_some kinds.Volume is = omega (arith, is)

module _ (pages : Pages) (layout : Layout) (laid : IsLayout pages layout) (none : HasNoTablesFault pages (frame_of layout)) where
  -- a cell in use that has a place is well formed
  stands_by : (at : CellAt) (link : Link) → IsLink pages (frame_of layout) at link → ¬ ¬ ((cell : Cell) × StandsAt pages at cell)
  stands_by at link is not =
      no_cells pages layout laid none (home_of at)
      (inr (inr (inl (record {
        place = is.place.place;
        page = is.place.page;
        is = is.place.is;
        cell = at.cell;
        within = is.place.within;
        used = not_free;
        wrong = λ (c : Cell) (of : IsCellOf (frame_of layout).version (cell_of is.place.page at.cell) c). not (c, record { bytes = cell_of is.place.page at.cell; there = there; is = of.is });
      }))))
    where
      there : cell_at pages at ≡ Some (cell_of is.place.page at.cell)
      there = there_at pages (home_of at) is.place.page is.place.is.read.there is.place.is.read.begins at.cell is.place.within

      not_free : ¬ IsFreeCell (cell_of is.place.page at.cell)
      not_free free =
          used_not_zeros pages at
          (subst (λ o. IsSomeAnd o (λ bytes. ¬ number_at 1 15 bytes ≡ 0)) (sym is.there) (λ zero_there. kind_some link.kind (sym is.kind ∙ zero_there)))
          (there ∙ ap Some free)

  -- a chain begins there, of a file or of quotas
  module _ (start : CellAt) (begun : ¬ ¬ ((link : Link) × IsChainHead pages (frame_of layout) start link)) where
    -- a chain that begins there, and a cell after these
    record Comes (passed : List CellAt) (at : CellAt) (cell : Cell) : Type 0 where
      first : Link
      head : IsChainHead pages (frame_of layout) start first
      follows : Follows pages (frame_of layout) start passed at (link_to cell)

    first_comes : (cell : Cell) → StandsAt pages start cell → ¬ ¬ Comes [] start cell
    first_comes cell stands away =
        begun (λ b.
        let link = link_of pages layout laid none start cell b.1.0.place stands in
        let kind = kind_there b.0 b.1.0 in
        away (record {
          first = link_to cell;
          head = (link, subst (λ k. (k ≡ kinds.Primary) ⊎ ((k ≡ kinds.Quota) × ((other : CellAt) → ¬ LeadsTo pages (frame_of layout) other start))) kind b.1.1);
          follows = rule.begins (link_to cell) link;
        }))
      where
        kind_there : (link : Link) → IsLink pages (frame_of layout) start link → link.kind ≡ cell.head.kind
        kind_there link is =
            let bytes : is.bytes ≡ stands.bytes = some_same is.bytes stands.bytes (sym is.there ∙ stands.there) in
            one_kind link.kind cell.head.kind (sym is.kind ∙ ap (number_at 1 15) bytes ∙ stands.is.head.kind)

    next_comes : (passed : List CellAt) (at onto : CellAt) (cell next : Cell) → Comes passed at cell → cell.head.next ≡ Some onto → StandsAt pages onto next → ¬ ¬ Comes (passed ++ at ∷ []) onto next
    next_comes passed at onto cell next comes leads stands away =
        follows_on pages layout laid none start comes.first comes.head passed at onto cell next comes.follows leads stands
        (λ follows. away (record { first = comes.first; head = comes.head; follows = follows }))

    path_comes : (passed : List PlacedCell) (last : PlacedCell) → Path pages start passed last → ¬ ¬ Comes (places passed) last.at last.cell
    path_comes passed last path = elim path as (λ passed last path. ¬ ¬ Comes (places passed) last.at last.cell) [
      | begins cell stands ↦ first_comes cell stands
      | goes_on passed last at cell (before → earlier) leads fresh stands may ↦
          subst (λ ps. ¬ ¬ Comes ps at cell) (sym (map_pushed (λ (c : PlacedCell). c.at) passed last))
          (λ away. earlier (λ comes. next_comes (places passed) last.at at last.cell cell comes leads stands away))
    ]

    -- a cell of it leads to no cell that is wrong
    leads_right : (passed : List CellAt) (at onto : CellAt) (cell : Cell) → Comes passed at cell → cell.head.next ≡ Some onto
        → ((link : Link) → IsLink pages (frame_of layout) onto link → may_follow cell.head.kind link.kind ≡ false) → ⊥
    leads_right passed at onto cell comes leads wrong =
        no_cell pages layout laid none at (inr (inr (inr (inl (record {
          start = start;
          link = link_to cell;
          is = record { first = comes.first; begins = comes.head; passed = passed; follows = comes.follows };
          onto = onto;
          leads = leads;
          wrong = inl wrong;
        })))))

    leads_back : (passed : List CellAt) (at onto : CellAt) (cell : Cell) → Comes passed at cell → cell.head.next ≡ Some onto → Contains (passed ++ at ∷ []) onto → ⊥
    leads_back passed at onto cell comes leads twice =
        no_cell pages layout laid none at (inr (inr (inr (inl (record {
          start = start;
          link = link_to cell;
          is = record { first = comes.first; begins = comes.head; passed = passed; follows = comes.follows };
          onto = onto;
          leads = leads;
          wrong = inr (inl twice);
        })))))

    goes_astray : (passed : List PlacedCell) (last : PlacedCell) (at : CellAt) → Path pages start passed last → last.cell.head.next ≡ Some at → LeadsAstray pages passed last at → ⊥
    goes_astray passed last at path leads (inl twice) =
        path_comes passed last path (λ comes. leads_back (places passed) last.at at last.cell comes leads (subst (λ ps. Contains ps at) (map_pushed (λ (c : PlacedCell). c.at) passed last) twice))
    goes_astray passed last at path leads (inr wrong) =
        path_comes passed last path
        (λ comes. leads_right (places passed) last.at at last.cell comes leads (λ (link : Link) (is : IsLink pages (frame_of layout) at link).
        ⊎_elim (λ may. absurd (stands_by at link is (λ found. differ link is found.0 found.1 may))) (λ other. other) (cases_Bool (may_follow last.cell.head.kind link.kind))))
      where
        differ : (link : Link) (is : IsLink pages (frame_of layout) at link) (cell : Cell) → StandsAt pages at cell → may_follow last.cell.head.kind link.kind ≡ true → ⊥
        differ link is cell stands may =
            let bytes : is.bytes ≡ stands.bytes = some_same is.bytes stands.bytes (sym is.there ∙ stands.there) in
            let kind : link.kind ≡ cell.head.kind = one_kind link.kind cell.head.kind (sym is.kind ∙ ap (number_at 1 15) bytes ∙ stands.is.head.kind) in
            let head : HasHeadAt pages at cell.head = record { bytes = stands.bytes; there = stands.there; size = _; is = stands.is.head } in
            let e : true ≡ false = sym may ∙ ap (may_follow last.cell.head.kind) kind ∙ wrong cell.head head in
            absurd (cc)

    pub head_unbroken : (at : CellAt) → ¬ IsBroken pages start at
    head_unbroken at broken = elim broken as (λ at broken. ⊥) [
      | nothing missing ↦ begun (λ b. stands_by start b.0 b.1.0 (λ found. missing found.0 found.1))
      | astray passed last at path leads wrong ↦ goes_astray passed last at path leads wrong
      | bad_cell passed last at head path leads fresh has may missing ↦
          path_comes passed last path (λ comes. leads_right (places passed) last.at at last.cell comes leads (λ (link : Link) (is : IsLink pages (frame_of layout) at link). absurd (stands_by at link is (λ found. missing found.0 found.1))))
    ]

  -- the chain of a file
  pub unbroken : (number : ℕ) (tag : Tag) (start : CellAt) → ¬ ¬ IsFirstOf pages (frame_of layout) number tag start → (at : CellAt) → ¬ IsBroken pages start at
  unbroken number tag start named =
      head_unbroken start
      (λ away. named (λ f. away (record { kind = kinds.Primary; next = rule.next_in f.bytes }, (record { place = f.place; bytes = f.bytes; there = f.there; kind = f.kind; next = refl }, inl refl))))
