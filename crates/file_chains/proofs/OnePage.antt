-- A record that says one page, and that a cell in use has a place.
use Rattle.std.proofs.Common.{◌≡◌, ◌∙◌, ℕ, ◌+◌, ◌-◌, ◌<◌, ◌≤◌, ◌^◌, ◌&&◌, Bool, true, false, cond, nat_eq, nat_le, nat_lt, List, [], ◌∷◌, length, length-append, Option, Some, None, IsSomeAnd, refl, sym, ap, arith, ⊎_elim}
use Rattle.std.proofs.lemmas.Bool.{and_from, and_parts, both_ways, cases_Bool, eqb-true, eq-eqb, le-leb, leb-true, lt-ltb, ltb-true}
use Rattle.std.specs.Option.{option_and_then}
use Rattle.free_cells.specs.domain_base.declared.version.Version.{Version}
use Rattle.free_cells.specs.domain_base.declared.version.Version.TheVariants.{Three, Four}
use Rattle.free_cells.specs.domain_base.declared.place.CellAt.{CellAt}
use Rattle.free_cells.specs.domain_base.declared.place.Home.{Home}
use Rattle.free_cells.specs.page_store.Pages.{Pages}
use Rattle.free_cells.specs.cell_records.declared.record.Record.TheVariants.{Extents, DenseExtents}
use Rattle.free_cells.specs.metadata_cells.Cell.{Cell, spellings}
use Rattle.free_cells.specs.cell_records.declared.record.Record.{Record}
use Rattle.free_cells.specs.cell_records.Records.{Allowed, kind_of, spelling}
use Rattle.free_cells.specs.cell_records.Layouts.{size_of}
use Rattle.free_cells.proofs.OfCellRecords.WholeRecord.{length-spelling}
use Rattle.free_cells.specs.metadata_cells.CellPage.{HasPlace, cell_of, home_of, is_cell_page}
use Rattle.free_cells.specs.metadata_cells.Chain.{StandsAt}
use Rattle.extent_records.specs.extent_maps.declared.run.PagePlace.TheVariants.{Absent, At}
use Rattle.extent_records.specs.extent_maps.declared.run.RunPlace.TheVariants as place
use Rattle.extent_records.specs.extent_maps.declared.run.Run.{Run}
use Rattle.extent_records.specs.extent_maps.Runs.{Places, covers, place_of, with_place}
use Rattle.extent_records.specs.Writing.{CanSay, HasRows, IsRow, chain_kind, extent_of, filled, is_of_holes, most_pages, no_extent}
use Rattle.extent_records.proofs.WritingLemmas.{dense_extents_are, extents_are}

abbrev one_row : ℕ → Home → Run
one_row page home = record { page = page; count = 1; first = place.At home }

module _ (page : ℕ) (home : Home) (small : page < 65536) (low : 1 ≤ home.vol) (high : home.vol ≤ 8) (within : home.page < 2 ^ 32) where
  is_row : (kind : ℕ) → is_of_holes kind ≡ false → 1 ≤ most_pages kind → IsRow kind 0 (one_row page home)
  is_row kind extents pages = record {
    is_run = record { some = omega arith; ends = omega (arith, small); homes = omega (arith, within) };
    begins = omega arith;
    short = pages;
    suits = (extents, (low, high));
  }

  row_at : (p : ℕ) → place_of (one_row page home ∷ []) p ≡ with_place page (At home) (λ _. Absent) p
  row_at p = ⊎_elim
      (λ same.
      let e : p ≡ page = eqb-true p page same in
      let off : p - page ≡ 0 = omega (arith, e) in
      let there : home.page + (p - page) ≡ home.page = omega (arith, off) in
      ap (λ (b : Bool). cond b (At (record home { page = home.page + (p - page) })) Absent)
      (and_from (nat_le page p) (nat_lt p (page + 1)) (le-leb page p (omega (arith, e))) (lt-ltb p (page + 1) (omega (arith, e))))
      ∙ ap (λ (n : ℕ). At (record home { page = n })) there
      ∙ sym (ap (λ (b : Bool). cond b (At home) Absent) same))
      (λ other.
      let outside : covers (one_row page home) p ≡ false = ⊎_elim
      (λ is. let both = and_parts (nat_le page p) (nat_lt p (page + 1)) is in
      absurd (both_ways (nat_eq p page) other (eq-eqb p page (omega (arith, leb-true page p both.0, ltb-true p (page + 1) both.1)))))
      (λ is. is)
      (cases_Bool (covers (one_row page home) p)) in
      ap (λ (b : Bool). cond b (At (record home { page = home.page + (p - page) })) Absent) outside
      ∙ sym (ap (λ (b : Bool). cond b (At home) Absent) other))
      (cases_Bool (nat_eq p page))

  three : HasRows 3 (one_row page home ∷ []) (Extents (filled extent_of no_extent 16 (one_row page home ∷ [])))
  three = extents_are (one_row page home ∷ []) (is_row 3 refl (omega arith), tt) (omega arith)

  four : HasRows 13 (one_row page home ∷ []) (DenseExtents (filled extent_of no_extent 22 (one_row page home ∷ [])))
  four = dense_extents_are (one_row page home ∷ []) (is_row 13 refl (omega arith), tt) (omega arith)

  -- a record of a chain's cell can say one page
  pub can_say_one : (version : Version) (places : Places) → ((p : ℕ) → places p ≡ Absent) → CanSay (chain_kind version) (with_place page (At home) places)
  can_say_one Three places none = (
    Extents (filled extent_of no_extent 16 (one_row page home ∷ [])),
    record { of_kind = three.of_kind; allowed = three.allowed; same = λ p. ap (λ rs. place_of rs p) three.says ∙ row_at p ∙ ap (λ x. cond (nat_eq p page) (At home) x) (sym (none p)) },
  )
  can_say_one Four places none = (
    DenseExtents (filled extent_of no_extent 22 (one_row page home ∷ [])),
    record { of_kind = four.of_kind; allowed = four.allowed; same = λ p. ap (λ rs. place_of rs p) four.says ∙ row_at p ∙ ap (λ x. cond (nat_eq p page) (At home) x) (sym (none p)) },
  )

pub chain_no_holes : (version : Version) → is_of_holes (chain_kind version) ≡ false
chain_no_holes Three = refl
chain_no_holes Four = refl

-- ---- a cell in use has a place

none_is : (bytes : List ℕ) → None ≡ Some bytes → ⊥
none_is bytes e = cc

pub place_stands : (pages : Pages) (at : CellAt) (cell : Cell) → StandsAt pages at cell → HasPlace pages at
place_stands pages at cell stands = by_page (pages (home_of at)) stands.there
  where
    by_page : (o : Option (List ℕ)) → option_and_then (λ page. cond (is_cell_page page && nat_lt at.cell 28) (Some (cell_of page at.cell)) None) o ≡ Some stands.bytes → IsSomeAnd o (λ page. is_cell_page page ≡ true) × (at.cell < 28)
    by_page None is = absurd (none_is stands.bytes is)
    by_page (Some page) is = ⊎_elim
        (λ yes. let both = and_parts (is_cell_page page) (nat_lt at.cell 28) yes in (both.0, ltb-true at.cell 28 both.1))
        (λ no. absurd (none_is stands.bytes (sym (ap (λ (b : Bool). cond b (Some (cell_of page at.cell)) None) no) ∙ is)))
        (cases_Bool (is_cell_page page && nat_lt at.cell 28))

-- ---- a record of a chain's cell has room in it

chain_size : (version : Version) → size_of (chain_kind version) ≤ 272
chain_size Three = omega arith
chain_size Four = omega arith

pub one_fits : (version : Version) (value : Record) (records : List Record) → records ≡ value ∷ [] → Allowed value → kind_of value ≡ chain_kind version → length (spellings records) ≤ 272
one_fits version value records is allowed kind =
    omega (arith, ap (λ rs. length (spellings rs)) is, length-append (spelling value) [], length-spelling value allowed, ap size_of kind, chain_size version)
