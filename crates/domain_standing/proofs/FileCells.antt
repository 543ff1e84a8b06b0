-- Where no rule of tables is broken, the cells of files are in use, and stand on pages of their volumes' tables.
use Rattle.std.proofs.Common.{◌≡◌, ◌∙◌, ◌⊎◌, inl, inr, ℕ, zero, suc, ◌<◌, List, [], ◌∷◌, ◌++◌, length, Option, Some, None, IfSome, IsSomeAnd, Contains, refl, sym, ap, subst, arith, ⊎_elim}
use Rattle.std.specs.List.{AllByRecursion}
use Rattle.std.specs.Prelude.{slice_index_or}
use Rattle.fileset_shapes.specs.domain_base.declared.place.CellAt.{CellAt}
use Rattle.fileset_shapes.specs.domain_base.declared.place.Home.{Home}
use Rattle.fileset_shapes.specs.domain_base.declared.place.Tag.{Tag}
use Rattle.fileset_shapes.specs.page_store.Pages.{Pages}
use Rattle.fileset_shapes.specs.metadata_cells.Chain.{Follow, PlacedCell, StandsAt}
use Rattle.fileset_shapes.specs.free_cells.Cells.{Cells, table_of}
use Rattle.fileset_shapes.specs.tag_dirs.Directory.{IsDirectoryAt, cell_of}
use Rattle.fileset_shapes.specs.file_chains.FileChanges.{AreOnTables}
use Rattle.fileset_shapes.specs.file_chains.Files.{AreFile, IsFile}
use Rattle.fileset_shapes.specs.fileset_files.Files.{AreFiles, Chains, LeadsToFile}
use Rattle.fileset_shapes.specs.fileset_files.Together.{AreFilesOnTables}
use Rattle.fileset_shapes.specs.domain_layout.CellRules.{Follows, IsChainHead, IsLink, IsUsed, Link, begins}
use Rattle.fileset_shapes.specs.domain_layout.Faults.{HasNoTablesFault}
use Rattle.fileset_shapes.specs.domain_layout.Layout.{AreTagPlaces, IsLayout, Layout, first_tag_of}
use Rattle.fileset_shapes.specs.domain_layout.Owners.{frame_of}
use Rattle.fileset_shapes.specs.domain_layout.TagRules.{HasTags, IsFirstOf}
use Rattle.fileset_shapes.proofs.OfDomainLayout.Named.{first_there, follows_on, last_link, link_of, link_to}
use Rattle.fileset_shapes.proofs.OfDomainLayout.OnePage.{some_same}
use Rattle.fileset_shapes.proofs.OfDomainLayout.Reached.{same_number}
use Rattle.fileset_shapes.proofs.OfFilesetsReading.OnTables.{on_table}
use Rattle.domain_standing.specs.Space.{AreCellsOf}

-- ---- whether a number is in a list

number_in : (xs : List ℕ) (x : ℕ) → Contains xs x ⊎ ¬ Contains xs x
number_in [] x = inr (λ is. omega (arith, is.1))
number_in (y ∷ ys) x =
    ⊎_elim (λ same. inl (0, omega arith, same))
    (λ other. ⊎_elim (λ there. inl (suc there.0, omega (arith, there.1), there.2))
    (λ none. inr (λ is. by_place is.0 is.1 is.2 other none)) (number_in ys x)) (same_number y x)
  where
    by_place : (k : ℕ) → k < length (y ∷ ys) → slice_index_or (y ∷ ys) k x ≡ x → ¬ y ≡ x → ¬ Contains ys x → ⊥
    by_place zero within is other none = other is
    by_place (suc k) within is other none = none (k, omega (arith, within), is)

pub is_in : (xs : List ℕ) (x : ℕ) → ¬ ¬ Contains xs x → Contains xs x
is_in xs x not_out = ⊎_elim (λ there. there) (λ none. absurd (not_out none)) (number_in xs x)

-- ---- cells in use

module _ (pages : Pages) (layout : Layout) (laid : IsLayout pages layout) (none : HasNoTablesFault pages (frame_of layout)) where
  -- a cell of a chain is in use, as far as can be said of it
  abbrev pub IsInUse : PlacedCell → Type 0
  IsInUse c = ¬ ¬ IsUsed pages (frame_of layout) c.at c.cell

  -- a cell of the chain that begins at one
  pub record Behind (start : CellAt) (c : PlacedCell) : Type 0 where
    pub passed : List CellAt
    pub follows : Follows pages (frame_of layout) start passed c.at (link_to c.cell)

  abbrev pub IsBehind : CellAt → PlacedCell → Type 0
  IsBehind start c = ¬ ¬ Behind start c

  module _ (start : CellAt) (first : Link) (head : ¬ ¬ IsChainHead pages (frame_of layout) start first) where
    next_on : (passed : List CellAt) (c d : PlacedCell) → ¬ ¬ Follows pages (frame_of layout) start passed c.at (link_to c.cell) → c.cell.head.next ≡ Some d.at → StandsAt pages d.at d.cell
        → ¬ ¬ Follows pages (frame_of layout) start (passed ++ c.at ∷ []) d.at (link_to d.cell)
    next_on passed c d on leads stands alone =
        head (λ h. on (λ follows. follows_on pages layout laid none start first h passed c.at d.at c.cell d.cell follows leads stands alone))

    later_used : (passed : List CellAt) (c : PlacedCell) → ¬ ¬ Follows pages (frame_of layout) start passed c.at (link_to c.cell) → (cs : List PlacedCell) → Follow pages c.cell.head cs
        → AllByRecursion IsInUse cs
    later_used passed c on [] follow = tt
    later_used passed c on (d ∷ ds) (leads, may, stands, more) =
        let next = next_on passed c d on leads stands in (
          (λ unused. next (λ follows. unused (record { place = (last_link pages layout start (passed ++ c.at ∷ []) d.at (link_to d.cell) follows).place; stands = stands }))),
          later_used (passed ++ c.at ∷ []) d next ds more,
        )

    later_behind : (passed : List CellAt) (c : PlacedCell) → ¬ ¬ Follows pages (frame_of layout) start passed c.at (link_to c.cell) → (cs : List PlacedCell) → Follow pages c.cell.head cs
        → AllByRecursion (IsBehind start) cs
    later_behind passed c on [] follow = tt
    later_behind passed c on (d ∷ ds) (leads, may, stands, more) =
        let next = next_on passed c d on leads stands in
        ((λ alone. next (λ follows. alone (record { passed = passed ++ c.at ∷ []; follows = follows }))), later_behind (passed ++ c.at ∷ []) d next ds more)

  module _ (number : ℕ) (tag : Tag) (first : PlacedCell) (rest : List PlacedCell) (named : ¬ ¬ IsFirstOf pages (frame_of layout) number tag first.at) (file : AreFile pages first rest) where
    first_link : ¬ ¬ IsLink pages (frame_of layout) first.at (link_to first.cell)
    first_link away = named (λ f. away (link_of pages layout laid none first.at first.cell f.place file.links.stands))

    chain_head : ¬ ¬ IsChainHead pages (frame_of layout) first.at (link_to first.cell)
    chain_head away = first_link (λ l. away (l, inl file.primary))

    first_on : ¬ ¬ Follows pages (frame_of layout) first.at [] first.at (link_to first.cell)
    first_on away = first_link (λ l. away (begins (link_to first.cell) l))

    pub file_used : AllByRecursion IsInUse (first ∷ rest)
    file_used = (
      (λ unused. named (λ f. unused (record { place = f.place; stands = file.links.stands }))),
      later_used first.at (link_to first.cell) chain_head [] first first_on rest file.links.follow,
    )

    pub file_behind : AllByRecursion (IsBehind first.at) (first ∷ rest)
    file_behind = (
      (λ alone. first_on (λ follows. alone (record { passed = []; follows = follows }))),
      later_behind first.at (link_to first.cell) chain_head [] first first_on rest file.links.follow,
    )

  module _ (number : ℕ) (first : Home) (has : HasTags layout.table number first) (chains : Chains) (files : AreFiles number (layout.tags number) pages chains) where
    pub directory : IsDirectoryAt pages first (layout.tags number)
    directory = subst (λ o. AreTagPlaces pages o (layout.tags number)) has.has (laid.tags number has.item has.there)

    used_from : (tag : Tag) (at : CellAt) (cells : List PlacedCell) → cell_of pages (layout.tags number) tag ≡ Some at → IsFile pages at cells → AllByRecursion IsInUse cells
    used_from tag at [] leads is = absurd is
    used_from tag at (c ∷ cs) leads is =
        file_used number tag c cs
        (subst (λ a. ¬ ¬ IsFirstOf pages (frame_of layout) number tag a) (sym is.0) (first_there pages layout laid none number first has (layout.tags number) directory tag at leads)) is.1

    -- the cells of each file are in use
    pub chain_used : (tag : Tag) (cells : List PlacedCell) → chains tag ≡ Some cells → AllByRecursion IsInUse cells
    chain_used tag cells there =
        let leads : LeadsToFile number (layout.tags number) pages tag cells = subst (λ o. IfSome o (LeadsToFile number (layout.tags number) pages tag)) there (files.some tag) in
        by_cell (cell_of pages (layout.tags number) tag) refl leads.leads
      where
        by_cell : (o : Option CellAt) → cell_of pages (layout.tags number) tag ≡ o → IsSomeAnd o (λ at. IsFile pages at cells) → AllByRecursion IsInUse cells
        by_cell None none is = absurd is
        by_cell (Some at) leads is = used_from tag at cells leads is

    module _ (cells : Cells) (are : AreCellsOf pages layout cells) where
      tables_at : (cs : List PlacedCell) → AllByRecursion IsInUse cs → AreOnTables cells cs
      tables_at [] used = tt
      tables_at (c ∷ cs) used = (
        is_in (table_of cells c.at.vol) c.at.page
            (λ out. used.0 (λ is.
            let on = on_table pages layout laid c.at c.cell is.place is.stands in
            out (subst (λ table. Contains table c.at.page) (sym (are.tables c.at.vol on.member)) on.table))),
        tables_at cs used.1,
      )

      pub on_tables : AreFilesOnTables cells chains
      on_tables tag = by_chain (chains tag) refl
        where
          by_chain : (o : Option (List PlacedCell)) → chains tag ≡ o → IfSome o (AreOnTables cells)
          by_chain None none = tt
          by_chain (Some cs) there = tables_at cs (chain_used tag cs there)
