-- Where no rule of tables is broken, the chain of a file of an original has no hole.
use Rattle.std.proofs.Common.{◌≡◌, ◌∙◌, ◌⊎◌, inl, inr, ℕ, zero, suc, ◌-◌, ◌<◌, ◌≤◌, Bool, true, false, cond, nat_eq, not, List, [], ◌∷◌, ◌++◌, Option, Some, None, is_some, Contains, refl, sym, ap, subst, arith, ⊎_elim}
use Rattle.std.proofs.lemmas.Bool.{cases_Bool, eq-eqb}
use Rattle.std.specs.List.{AllByRecursion, flat_map}
use Rattle.std.specs.Option.{option_and_then}
use Rattle.std.specs.Prelude.{slice_get}
use Rattle.fileset_shapes.specs.domain_base.declared.place.CellAt.{CellAt}
use Rattle.fileset_shapes.specs.domain_base.declared.place.Home.{Home}
use Rattle.fileset_shapes.specs.domain_base.declared.place.Tag.{Tag}
use Rattle.fileset_shapes.specs.page_store.Pages.{Pages}
use Rattle.fileset_shapes.specs.cell_records.Records.{kind_of}
use Rattle.fileset_shapes.specs.cell_records.declared.record.ExtentField.{ExtentField}
use Rattle.fileset_shapes.specs.cell_records.declared.record.Record.{Record}
use Rattle.fileset_shapes.specs.cell_records.declared.record.Record.TheVariants as written
use Rattle.fileset_shapes.specs.metadata_cells.Cell.{Cell, record_of}
use Rattle.fileset_shapes.specs.metadata_cells.Chain.{PlacedCell, records_of}
use Rattle.fileset_shapes.specs.extent_maps.Runs.{behind, covers, end_of, place_of, placed}
use Rattle.fileset_shapes.specs.extent_maps.declared.run.PagePlace.{PagePlace}
use Rattle.fileset_shapes.specs.extent_maps.declared.run.PagePlace.TheVariants.{Absent, At, Hole}
use Rattle.fileset_shapes.specs.extent_maps.declared.run.Run.{Run}
use Rattle.fileset_shapes.proofs.OfExtentMaps.EditLemmas.{over, place_append}
use Rattle.fileset_shapes.specs.extent_records.Rows.{IsPlaced, run_of, runs_at, runs_in, runs_of}
use Rattle.fileset_shapes.specs.extent_records.Writing.{places_in}
use Rattle.fileset_shapes.specs.file_chains.Files.{AreFile, places_of}
use Rattle.fileset_shapes.proofs.OfFileChains.Walks.{first_places}
use Rattle.fileset_shapes.specs.fileset_files.Files.{IsOf, is_removed}
use Rattle.fileset_shapes.specs.fileset_table.declared.slot.FilesetEntry.{FilesetEntry}
use Rattle.fileset_shapes.specs.fileset_table.declared.slot.SlotItem.{SlotItem}
use Rattle.fileset_shapes.specs.fileset_table.declared.slot.SlotItem.TheVariants as slot
use Rattle.fileset_shapes.specs.domain_layout.CellRules.{has_kind, item_of, of_original, say_removed}
use Rattle.fileset_shapes.specs.domain_layout.Faults.{HasNoTablesFault}
use Rattle.fileset_shapes.specs.domain_layout.Layout.{IsLayout, Layout}
use Rattle.fileset_shapes.specs.domain_layout.Owners.{frame_of}
use Rattle.fileset_shapes.specs.domain_layout.TagRules.{IsFirstOf}
use Rattle.fileset_shapes.proofs.OfDomainLayout.Named.{no_cell}
use Rattle.domain_standing.proofs.FileCells.{file_behind, file_used}

-- ---- records of holes

absent_hole : {P : Type 0} → Absent ≡ Hole → P
absent_hole is = absurd (cc)

at_hole : {P : Type 0} (home : Home) → At home ≡ Hole → P
at_hole home is = absurd (cc)

which : (a b : PagePlace) → over a b ≡ Hole → (a ≡ Hole) ⊎ (b ≡ Hole)
which Absent b is = inr is
which (At other) b is = inl is
which Hole b is = inl is

-- a row of an extent says no hole
one_row : (e : ExtentField) (page : ℕ) → place_of (runs_at e) page ≡ Hole → ⊥
one_row e page = by_count (nat_eq e.count 0)
  where
    by_cover : (b : Bool) → cond b (placed (behind (page - (run_of e).page) (run_of e).first)) Absent ≡ Hole → ⊥
    by_cover true is = at_hole _ is
    by_cover false is = absent_hole is

    by_count : (b : Bool) → place_of (cond b [] (run_of e ∷ [])) page ≡ Hole → ⊥
    by_count true is = absent_hole is
    by_count false is = by_cover (covers (run_of e) page) is

rows_say : (es : List ExtentField) (page : ℕ) → place_of (flat_map runs_at es) page ≡ Hole → ⊥
rows_say [] page is = absent_hole is
rows_say (e ∷ es) page is =
    ⊎_elim (one_row e page) (rows_say es page) (which (place_of (runs_at e) page) (place_of (flat_map runs_at es) page) (sym (place_append (runs_at e) (flat_map runs_at es) page) ∙ is))

-- so that only one of holes does
of_holes : (r : Record) (page : ℕ) → places_in r page ≡ Hole → kind_of r ≡ 5
of_holes (written.Extents rows) page is = absurd (rows_say rows page is)
of_holes (written.ShortExtents rows) page is = absurd (rows_say rows page is)
of_holes (written.DenseExtents rows) page is = absurd (rows_say rows page is)
of_holes (written.ShortDense rows) page is = absurd (rows_say rows page is)
of_holes (written.Holes rows) page is = refl
of_holes r page is = absent_hole is

has_it : (rs : List Record) (r : Record) → Contains rs r → kind_of r ≡ 5 → has_kind 5 rs ≡ true
has_it [] r (k, within, is) kind = absurd (omega (arith, within))
has_it (x ∷ xs) r (zero, within, is) kind = ap (λ b. is_some (cond b (Some x) (record_of 5 xs))) (eq-eqb (kind_of x) 5 (ap kind_of is ∙ kind))
has_it (x ∷ xs) r (suc k, within, is) kind = by_kind (nat_eq (kind_of x) 5) (has_it xs r (k, omega (arith, within), is) kind)
  where
    by_kind : (b : Bool) → has_kind 5 xs ≡ true → is_some (cond b (Some x) (record_of 5 xs)) ≡ true
    by_kind true later = refl
    by_kind false later = later

in_records : (rs : List Record) (page : ℕ) → place_of (runs_of rs) page ≡ Hole → has_kind 5 rs ≡ true
in_records rs page is = let found = of_record rs page is in has_it rs found.0 found.1 (of_holes found.0 page found.2)
  where
    of_record : (rs : List Record) (page : ℕ) → place_of (runs_of rs) page ≡ Hole → (value : Record) × Contains rs value × (places_in value page ≡ Hole)
    of_record [] page is = absent_hole is
    of_record (r ∷ rs) page is =
        ⊎_elim (λ here. (r, (0, omega arith, refl), here))
        (λ later. let found = of_record rs page later in (found.0, (suc found.1.0, omega (arith, found.1.1), found.1.2), found.2))
        (which (place_of (runs_in r) page) (place_of (runs_of rs) page) (sym (place_append (runs_in r) (runs_of rs) page) ∙ is))

-- ---- a chain

both_at : (P Q : PlacedCell → Type 0) (page : ℕ) (cells : List PlacedCell) → AllByRecursion P cells → AllByRecursion Q cells → places_of cells page ≡ Hole
    → (c : PlacedCell) × P c × Q c × (has_kind 5 c.cell.records ≡ true)
both_at P Q page [] p q is = absent_hole is
both_at P Q page (c ∷ cs) p q is =
    ⊎_elim (λ here. (c, p.0, q.0, in_records c.cell.records page here)) (both_at P Q page cs p.1 q.1)
    (which (place_of (runs_of c.cell.records) page) (places_of cs page) (sym (first_places c cs page) ∙ is))

module _ (pages : Pages) (layout : Layout) (laid : IsLayout pages layout) (none : HasNoTablesFault pages (frame_of layout)) (number : ℕ) (entry : FilesetEntry)
    (there : slice_get layout.table.slots number ≡ Some (slot.Original entry)) where
  pub no_hole : (tag : Tag) (first : PlacedCell) (rest : List PlacedCell) → ¬ ¬ IsFirstOf pages (frame_of layout) number tag first.at → AreFile pages first rest → IsOf number tag (first ∷ rest)
      → is_removed (first ∷ rest) ≡ false → (page : ℕ) → ¬ places_of (first ∷ rest) page ≡ Hole
  no_hole tag first rest named file of live page is =
      let used = file_used pages layout laid none number tag first rest named file in
      let found = both_at _ _ page (first ∷ rest) used (file_behind pages layout laid none number tag first rest named file) is in
      used.0 (λ first_used. found.1 (λ cell_used. found.2 (λ back.
      no_cell pages layout laid none found.0.at (inr (inr (inr (inr (inr (inr (inr (record {
        start = first.at;
        first = first.cell;
        first_is = first_used;
        kind = file.primary;
        original = ap (λ o. of_original (option_and_then (slice_get layout.table.slots) o)) of.2 ∙ ap of_original there;
        live = live;
        passed = back.passed;
        link = _;
        follows = back.follows;
        cell = found.0.cell;
        is = cell_used;
        holes = found.3;
      })))))))))))
