-- Where no rule is broken, the pages of files and of their tag directory are held apart, and none is of two.
use Rattle.std.proofs.Common.{◌≡◌, ◌∙◌, ◌⊎◌, inl, inr, ℕ, zero, suc, ◌<◌, Bool, true, false, List, [], ◌∷◌, ◌++◌, length, Option, Some, None, IfSome, IsSomeAnd, Contains, refl, sym, ap, subst, arith, ⊎_elim}
use Rattle.std.proofs.lemmas.Bool.{cases_Bool}
use Rattle.std.proofs.lemmas.Grind.{flat_map-append}
use Rattle.std.specs.List.{AllByRecursion}
use Rattle.std.specs.Option.{option_map_or}
use Rattle.std.specs.Prelude.{slice_index_or}
use Rattle.fileset_shapes.specs.domain_base.declared.place.CellAt.{CellAt}
use Rattle.fileset_shapes.specs.domain_base.declared.place.Home.{Home}
use Rattle.fileset_shapes.specs.domain_base.declared.place.Tag.{Tag}
use Rattle.fileset_shapes.specs.page_store.Bitfiles.{same_tag}
use Rattle.fileset_shapes.specs.page_store.Pages.{Pages}
use Rattle.fileset_shapes.specs.cell_records.declared.record.Record.{Record}
use Rattle.fileset_shapes.specs.metadata_cells.CellPage.{home_of}
use Rattle.fileset_shapes.specs.metadata_cells.Chain.{PlacedCell, places, records_of}
use Rattle.fileset_shapes.specs.extent_maps.Runs.{place_of}
use Rattle.fileset_shapes.specs.extent_maps.declared.run.PagePlace.{PagePlace}
use Rattle.fileset_shapes.specs.extent_maps.declared.run.PagePlace.TheVariants.{Absent, At, Hole}
use Rattle.fileset_shapes.proofs.OfExtentMaps.EditLemmas.{over, place_append}
use Rattle.fileset_shapes.specs.extent_records.Rows.{runs_in, runs_of}
use Rattle.fileset_shapes.specs.extent_records.Writing.{places_in}
use Rattle.fileset_shapes.specs.free_cells.Cells.{Cells, table_of}
use Rattle.fileset_shapes.specs.free_space.Spaces.{IsHeld, Spaces}
use Rattle.fileset_shapes.specs.log_recovery.Range.{IsLogInside}
use Rattle.fileset_shapes.specs.tag_dirs.Directory.{has_home}
use Rattle.fileset_shapes.specs.file_chains.Files.{places_of}
use Rattle.fileset_shapes.proofs.OfFileChains.Walks.{first_places}
use Rattle.fileset_shapes.specs.fileset_files.Files.{AreApart, AreFiles, Chains, place_at}
use Rattle.fileset_shapes.specs.fileset_files.Together.{AreFilePages, AreTagPages, IsEachHomeOnce, IsFilePage, IsHeldApart}
use Rattle.fileset_shapes.proofs.OfFilesetFiles.OneFile.{tags_same}
use Rattle.fileset_shapes.specs.domain_layout.CellRules.{IsUsed}
use Rattle.fileset_shapes.specs.domain_layout.Faults.{HasNoFault, HasNoTablesFault}
use Rattle.fileset_shapes.specs.domain_layout.Layout.{IsLayout, Layout}
use Rattle.fileset_shapes.specs.domain_layout.Owners.{BelongsTo, HasExtent, HasTagPage, IsOwnedOnce, Owner, frame_of}
use Rattle.fileset_shapes.specs.domain_layout.Owners.Owner.{of_cells, of_file, of_tags}
use Rattle.fileset_shapes.specs.domain_layout.Reached.{IsWithin, MayBe}
use Rattle.fileset_shapes.specs.domain_layout.TagRules.{HasTags}
use Rattle.fileset_shapes.proofs.OfDomainLayout.NoTables.{none_of_tables}
use Rattle.fileset_shapes.proofs.OfDomainLayout.OnePage.{some_same}
use Rattle.fileset_shapes.proofs.OfDomainLayout.OwnedOnce.{no_extent, owned_once, tag_place}
use Rattle.fileset_shapes.proofs.OfDomainLayout.Reached.{may_be_by, same_number}
use Rattle.fileset_shapes.proofs.OfFilesetsReading.OnTables.{on_table}
use Rattle.domain_standing.specs.Space.{AreCellsOf, IsSpaceOf}
use Rattle.domain_standing.proofs.FileCells.{IsInUse, chain_used}
use Rattle.domain_standing.proofs.Held.{held}
use Rattle.domain_standing.proofs.Tables.{of_member}

-- ---- where a chain says that a page stands

-- a record of a cell of the chain says so
pub record IsSaid (cells : List PlacedCell) (page : ℕ) (home : Home) : Type 0 where
  pub c : PlacedCell
  pub among : Contains cells c
  pub value : Record
  pub within : Contains c.cell.records value
  pub place : places_in value page ≡ At home

nowhere : {P : Type 0} (home : Home) → Absent ≡ At home → P
nowhere home is = absurd (cc)

no_hole : {P : Type 0} (home : Home) → Hole ≡ At home → P
no_hole home is = absurd (cc)

-- of two places one over the other, one is it
which : (a b : PagePlace) (home : Home) → over a b ≡ At home → (a ≡ At home) ⊎ (b ≡ At home)
which Absent b home is = inr is
which (At other) b home is = inl is
which Hole b home is = inl is

in_records : (rs : List Record) (page : ℕ) (home : Home) → place_of (runs_of rs) page ≡ At home → (value : Record) × Contains rs value × (places_in value page ≡ At home)
in_records [] page home is = nowhere home is
in_records (r ∷ rs) page home is =
    ⊎_elim (λ here. (r, (0, omega arith, refl), here))
    (λ later. let found = in_records rs page home later in (found.0, (suc found.1.0, omega (arith, found.1.1), found.1.2), found.2))
    (which (place_of (runs_in r) page) (place_of (runs_of rs) page) home (sym (place_append (runs_in r) (runs_of rs) page) ∙ is))

pub is_said : (cells : List PlacedCell) (page : ℕ) (home : Home) → places_of cells page ≡ At home → IsSaid cells page home
is_said [] page home is = nowhere home is
is_said (c ∷ cs) page home is =
    ⊎_elim (λ here. let found = in_records c.cell.records page home here in record { c = c; among = (0, omega arith, refl); value = found.0; within = found.1; place = found.2 })
    (λ later. let found = is_said cs page home later in record { c = found.c; among = (suc found.among.0, omega (arith, found.among.1), found.among.2); value = found.value; within = found.within; place = found.place })
    (which (place_of (runs_of c.cell.records) page) (places_of cs page) home (sym (first_places c cs page) ∙ is))

all_at : (P : PlacedCell → Type 0) (cells : List PlacedCell) (c : PlacedCell) → AllByRecursion P cells → Contains cells c → P c
all_at P [] c all (k, within, is) = absurd (omega (arith, within))
all_at P (d ∷ ds) c all (zero, within, is) = subst P is all.0
all_at P (d ∷ ds) c all (suc k, within, is) = all_at P ds c all.1 (k, omega (arith, within), is)

place_in : (cells : List PlacedCell) (c : PlacedCell) → Contains cells c → Contains (places cells) c.at
place_in [] c (k, within, is) = absurd (omega (arith, within))
place_in (d ∷ ds) c (zero, within, is) = (0, omega arith, ap (λ (x : PlacedCell). x.at) is)
place_in (d ∷ ds) c (suc k, within, is) = let more = place_in ds c (k, omega (arith, within), is) in (suc more.0, omega (arith, more.1), more.2)

-- the chain that has a page
pub record Chained (chains : Chains) (tag : Tag) (page : ℕ) (home : Home) : Type 0 where
  pub cells : List PlacedCell
  pub there : chains tag ≡ Some cells
  pub said : IsSaid cells page home

pub chained : (chains : Chains) (tag : Tag) (page : ℕ) (home : Home) → place_at chains tag page ≡ At home → Chained chains tag page home
chained chains tag page home is = by_chain (chains tag) refl is
  where
    by_chain : (o : Option (List PlacedCell)) → chains tag ≡ o → option_map_or (λ cells. places_of cells page) o Absent ≡ At home → Chained chains tag page home
    by_chain None none is = nowhere home is
    by_chain (Some cells) there is = record { cells = cells; there = there; said = is_said cells page home is }

-- ---- one owner

cells_of_tags : {P : Type 0} (number : ℕ) → of_cells ≡ of_tags number → P
cells_of_tags number is = absurd (cc)

cells_of_file : {P : Type 0} (at : CellAt) (page : ℕ) → of_cells ≡ of_file at page → P
cells_of_file at page is = absurd (cc)

tags_of_file : {P : Type 0} (number : ℕ) (at : CellAt) (page : ℕ) → of_tags number ≡ of_file at page → P
tags_of_file number at page is = absurd (cc)

same_cells : (at other : CellAt) (p q : ℕ) → of_file at p ≡ of_file other q → at ≡ other
same_cells at other p q is = cc

same_pages : (at other : CellAt) (p q : ℕ) → of_file at p ≡ of_file other q → p ≡ q
same_pages at other p q is = cc

module _ (pages : Pages) (layout : Layout) (space : Spaces) (cells : Cells) (laid : IsLayout pages layout) (none : HasNoFault pages (frame_of layout)) (log : IsLogInside layout.version layout.anchor)
    (is : IsSpaceOf pages layout space) (are : AreCellsOf pages layout cells) (number : ℕ) (first : Home) (has : HasTags layout.table number first)
    (chains : Chains) (files : AreFiles number (layout.tags number) pages chains) where
  pub tables : HasNoTablesFault pages (frame_of layout)
  tables = none_of_tables pages (frame_of layout) none

  pub once : IsOwnedOnce pages layout
  once = owned_once pages layout laid none log

  -- a page of a table of cells belongs to it
  pub of_table : (home : Home) → Contains (table_of cells home.vol) home.page → BelongsTo pages layout of_cells home
  of_table home among =
      let member = of_member pages layout space cells laid tables is are home.vol among.0 among.1 in
      (member, subst (λ table. Contains table home.page) (are.tables home.vol member) among)

  -- ---- tags

  pub tag_page : (home : Home) → has_home (layout.tags number) home ≡ true → HasTagPage layout number home
  tag_page home there = record { item = has.item; there = has.there; has = there }

  pub tag_within : (home : Home) → has_home (layout.tags number) home ≡ true → IsWithin (frame_of layout) home
  tag_within home there = (tag_place pages layout laid tables number home (tag_page home there)).is.read.may.0

  pub tag_pages : AreTagPages space cells (layout.tags number)
  tag_pages home there = record {
    held = held pages layout space is home (tag_within home there) (λ unowned. unowned (of_tags number, tag_page home there));
    off_table = λ among. cells_of_tags number (once home of_cells (of_tags number) (of_table home among) (tag_page home there));
  }

  -- ---- files

  -- a page that a file's chain has belongs to it, by one of its cells
  pub record IsOfChain (chain : List PlacedCell) (page : ℕ) (home : Home) : Type 0 where
    pub at : CellAt
    pub among : Contains (places chain) at
    pub extent : HasExtent pages layout at page home

  pub of_chain : (tag : Tag) (page : ℕ) (home : Home) (c : Chained chains tag page home) → ¬ ¬ IsOfChain c.cells page home
  of_chain tag page home c unowned =
      all_at (IsInUse pages layout laid tables) c.cells c.said.c (chain_used pages layout laid tables number first has chains files tag c.cells c.there) c.said.among
      (λ used. unowned (record {
        at = c.said.c.at;
        among = place_in c.cells c.said.c c.said.among;
        extent = record {
          cell = c.said.c.cell;
          on = on_table pages layout laid c.said.c.at c.said.c.cell used.place used.stands;
          value = c.said.value;
          among = c.said.within;
          place = c.said.place;
        };
      }))

  file_may : (page : ℕ) (home : Home) (chain : List PlacedCell) → ¬ ¬ IsOfChain chain page home → MayBe (frame_of layout) home
  file_may page home chain owned =
      may_be_by (frame_of layout) home (λ wrong. owned (λ one. no_extent pages layout laid none (home_of one.at) (one.at, refl, record { page = page; home = home; has = one.extent; wrong = inl wrong })))

  held_apart : (page : ℕ) (home : Home) (chain : List PlacedCell) → ¬ ¬ IsOfChain chain page home → IsHeldApart space cells home
  held_apart page home chain owned = record {
    held = held pages layout space is home (file_may page home chain owned).0 (λ unowned. owned (λ one. unowned (of_file one.at page, one.extent)));
    off_table = λ among. owned (λ one. cells_of_file one.at page (once home of_cells (of_file one.at page) (of_table home among) one.extent));
  }

  pub file_pages : AreFilePages space cells (layout.tags number) chains
  file_pages tag page home stands =
      let c = chained chains tag page home stands in
      let owned = of_chain tag page home c in
      record {
        apart = held_apart page home c.cells owned;
        no_tags = ⊎_elim (λ there. absurd (owned (λ one. tags_of_file number one.at page (once home (of_tags number) (of_file one.at page) (tag_page home there) one.extent)))) (λ not_there. not_there)
            (cases_Bool (has_home (layout.tags number) home));
      }

  pub two_chains : (s t : Tag) (xs ys : List PlacedCell) → chains s ≡ Some xs → chains t ≡ Some ys → same_tag s t ≡ false → AreApart xs ys
  two_chains s t xs ys one other differ =
      subst (λ o. IfSome o (AreApart xs)) other (subst (λ o. IfSome o (λ (zs : List PlacedCell). IfSome (chains t) (AreApart zs))) one (files.apart s t differ))

  same_owner : (p q : ℕ) (home : Home) (xs ys : List PlacedCell) (one : IsOfChain xs p home) (other : IsOfChain ys q home) → of_file one.at p ≡ of_file other.at q
  same_owner p q home xs ys one other = once home (of_file one.at p) (of_file other.at q) one.extent other.extent

  pub each_once : IsEachHomeOnce chains
  each_once s t p q home one other =
      let a = chained chains s p home one in
      let b = chained chains t q home other in
      let xs = of_chain s p home a in
      let ys = of_chain t q home b in (
        ⊎_elim (λ same. tags_same s t same)
            (λ differ. absurd (xs (λ x. ys (λ y.
            two_chains s t a.cells b.cells a.there b.there differ x.at x.among
            (subst (Contains (places b.cells)) (sym (same_cells x.at y.at p q (same_owner p q home a.cells b.cells x y))) y.among)))))
            (cases_Bool (same_tag s t)),
        ⊎_elim (λ same. same)
            (λ differ. absurd (xs (λ x. ys (λ y. differ (same_pages x.at y.at p q (same_owner p q home a.cells b.cells x y))))))
            (same_number p q),
      )
