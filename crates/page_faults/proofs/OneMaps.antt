-- Where no rule of cells is broken, each cell in use has each page of its file in one row at most.
use Rattle.std.proofs.Common.{◌≡◌, ◌∙◌, ◌⊎◌, ◌&&◌, ◌||◌, ◌==◌, inl, inr, zero, suc, Bool, true, false, not, List, [], ◌∷◌, ◌++◌, Contains, refl, sym, ap, subst, arith, ⊎_elim}
use Rattle.std.proofs.lemmas.Bool.{and_parts, cases_Bool, cases_lt}
use Rattle.std.proofs.lemmas.List.{append-nil}
use Rattle.std.specs.List.{AllByRecursion, list_all}
use Rattle.std.specs.Option.{option_map_or}
use Rattle.tag_faults.specs.domain_base.declared.place.CellAt.{CellAt}
use Rattle.tag_faults.specs.domain_base.declared.place.Home.{Home}
use Rattle.tag_faults.specs.page_store.Pages.{Pages}
use Rattle.tag_faults.specs.cell_records.Records.{Allowed, kind_of}
use Rattle.tag_faults.specs.cell_records.declared.record.Record.{Record}
use Rattle.tag_faults.specs.cell_records.declared.record.Record.TheVariants as written
use Rattle.tag_faults.specs.metadata_cells.Cell.{Cell, record_of}
use Rattle.tag_faults.specs.metadata_cells.CellPage.{home_of}
use Rattle.tag_faults.specs.metadata_cells.declared.head.CellKind.{CellKind}
use Rattle.tag_faults.specs.metadata_cells.declared.head.CellKind.TheVariants as kinds
use Rattle.tag_faults.proofs.OfMetadataCells.Unique.{one_stands}
use Rattle.tag_faults.specs.extent_maps.declared.run.Run.{Run}
use Rattle.tag_faults.specs.extent_records.Rows.{NoPageTwice, runs_in, runs_of, times}
use Rattle.tag_faults.proofs.OfFileChains.MapRecords.{runs_by_map}
use Rattle.tag_faults.specs.fileset_files.Files.{is_first_kind}
use Rattle.tag_faults.specs.fileset_table.Table.{Table}
use Rattle.tag_faults.proofs.OfDomainLayout.Reached.{same_number}
use Rattle.tag_faults.specs.domain_layout.CellRules.{IsCellFault, IsCellsFault, IsFirstPlace, IsUsed, agree, are_limits, has_first_records, has_its_kinds, has_kind, is_chain_records, is_good_first, item_of, keeps_well, next_in, of_clone, of_original, say_removed}
use Rattle.tag_faults.specs.domain_layout.Reached.{Frame, first_cells}
use Rattle.filesets_reading.proofs.FirstCells.{all_first, chain_record, one_record}
use Rattle.filesets_reading.proofs.MapRecords.{allowed_rise, rising_once}
use Rattle.tag_faults.specs.cell_chains.declared.links.CellLinks.{CellLinks}
use Rattle.tag_faults.specs.cell_faults.Links.{AreLinks}
use Rattle.tag_faults.specs.cell_chains.Reading.{HaveOneMap}
use Rattle.tag_faults.proofs.UsedCells.{used_by}

no_bool : false ≡ true → ⊥
no_bool e = cc

true_by : (b : Bool) → ¬ b ≡ false → b ≡ true
true_by b not = ⊎_elim (λ is. is) (λ wrong. absurd (not wrong)) (cases_Bool b)

allowed_in : (rs : List Record) (r : Record) → AllByRecursion Allowed rs → Contains rs r → Allowed r
allowed_in [] r all (k, within, is) = absurd (omega (arith, within))
allowed_in (x ∷ xs) r all (zero, within, is) = subst Allowed is all.0
allowed_in (x ∷ xs) r all (suc k, within, is) = allowed_in xs r all.1 (k, omega (arith, within), is)

-- one record of a map has each page once
alone_once : (rs : List Record) (value : Record) → runs_of rs ≡ runs_of (value ∷ []) → Allowed value → NoPageTwice (runs_of rs)
alone_once rs value same allowed = subst NoPageTwice (sym (same ∙ append-nil (runs_in value))) (rising_once 0 (runs_in value) (allowed_rise value allowed))

no_runs : (r : Record) → ((kind_of r == 7) || (kind_of r == 8)) ≡ true → runs_in r ≡ []
no_runs (written.Extents rows) is = absurd (no_bool is)
no_runs (written.ShortExtents rows) is = absurd (no_bool is)
no_runs (written.DenseExtents rows) is = absurd (no_bool is)
no_runs (written.ShortDense rows) is = absurd (no_bool is)
no_runs (written.Holes rows) is = absurd (no_bool is)
no_runs _ is = refl

limits_runs : (rs : List Record) → are_limits rs ≡ true → runs_of rs ≡ []
limits_runs [] is = refl
limits_runs (r ∷ rs) is =
    let both = and_parts ((kind_of r == 7) || (kind_of r == 8)) (list_all (λ r. (kind_of r == 7) || (kind_of r == 8)) rs) is in
    ap (λ (l : List Run). l ++ runs_of rs) (no_runs r both.0) ∙ limits_runs rs both.1

module _ (pages : Pages) (frame : Frame) (table : Table) (none : (home : Home) → ¬ IsCellsFault pages frame table home) (at : CellAt) (cell : Cell) (used : IsUsed pages frame at cell) where
  no_fault : ¬ IsCellFault pages frame table at
  no_fault fault = none (home_of at) (inr (inr (inr (at, refl, fault))))

  in_records : (value : Record) → Contains cell.records value → Allowed value
  in_records value among = allowed_in cell.records value used.stands.is.well_formed.allowed among

  first_once : cell.head.kind ≡ kinds.Primary → NoPageTwice (runs_of cell.records)
  first_once kind =
      let good : is_good_first table cell ≡ true = true_by (is_good_first table cell) (λ wrong. no_fault (inr (inl (record { cell = cell; used = used; kind = kind; wrong = wrong })))) in
      let records : has_first_records cell.records ≡ true =
      (and_parts (has_first_records cell.records)
      (say_removed cell.records || ((not (of_original (item_of table cell.head)) || (has_its_kinds false cell.records
      && option_map_or (λ r. keeps_well r (has_kind 6 cell.records)) (record_of 1 cell.records) false))
      && (not (of_clone (item_of table cell.head)) || has_its_kinds true cell.records))) good).0 in
      let parts = and_parts (has_kind 1 cell.records && not (agree (has_kind 4 cell.records) (has_kind 14 cell.records))) (list_all (λ r. is_first_kind (kind_of r)) cell.records) records in
      let one = one_record 0 cell.records used.stands.is.well_formed.rising (all_first cell.records parts.1) (and_parts (has_kind 1 cell.records) (not (agree (has_kind 4 cell.records) (has_kind 14 cell.records))) parts.0).1 in
      alone_once cell.records one.value (runs_by_map cell.records ∙ ap runs_of one.only) (in_records one.value one.among)

  chain_once : cell.head.kind ≡ kinds.Chain → NoPageTwice (runs_of cell.records)
  chain_once kind =
      let right : is_chain_records cell.records ≡ true = true_by (is_chain_records cell.records) (λ wrong. no_fault (inr (inr (inl (record { cell = cell; used = used; wrong = inl (kind, wrong) }))))) in
      let one = chain_record cell.records right in
      alone_once cell.records one.value (ap runs_of one.only) (in_records one.value (subst (λ rs. Contains rs one.value) (sym one.only) (0, omega arith, refl)))

  quota_once : cell.head.kind ≡ kinds.Quota → NoPageTwice (runs_of cell.records)
  quota_once kind page =
      let right : are_limits cell.records ≡ true = true_by (are_limits cell.records) (λ wrong. no_fault (inr (inr (inl (record { cell = cell; used = used; wrong = inr (kind, wrong) }))))) in
      let empty : times (runs_of cell.records) page ≡ 0 = ap (λ (l : List Run). times l page) (limits_runs cell.records right) in
      omega (arith, empty)

  is_first : IsFirstPlace frame at ⊎ ¬ IsFirstPlace frame at
  is_first = ⊎_elim (λ page. ⊎_elim (λ number. inl (page, number)) (λ other. inr (λ both. other both.1)) (same_number at.cell 0)) (λ other. inr (λ both. other both.0)) (same_number at.page (first_cells frame at.vol))

  volume_once : cell.head.kind ≡ kinds.Volume → NoPageTwice (runs_of cell.records)
  volume_once kind page =
      ⊎_elim (λ few. omega (arith, few))
      (λ many. absurd (⊎_elim
      (λ first. no_fault (inl (inl (
        used.place,
        first,
        (λ other stands says.
            let same = one_stands pages at cell other used.stands stands in
            let empty : times (runs_of cell.records) page ≡ 0 = ap (λ (c : Cell). times (runs_of c.records) page) same ∙ ap (λ (rs : List Record). times (runs_of rs) page) says.says in
            omega (arith, empty, many)),
      ))))
      (λ later. no_fault (inl (inr (
        record { kind = cell.head.kind; next = next_in used.stands.bytes },
        record { place = used.place; bytes = used.stands.bytes; there = used.stands.there; kind = used.stands.is.head.kind; next = refl },
        kind,
        later,
      )))) is_first))
      (cases_lt (times (runs_of cell.records) page) 2)

  by_kind : (k : CellKind) → cell.head.kind ≡ k → NoPageTwice (runs_of cell.records)
  by_kind kinds.Primary kind = first_once kind
  by_kind kinds.Chain kind = chain_once kind
  by_kind kinds.Quota kind = quota_once kind
  by_kind kinds.Volume kind = volume_once kind

  pub once : NoPageTwice (runs_of cell.records)
  once = by_kind cell.head.kind refl

pub have_one_map : (pages : Pages) (frame : Frame) (table : Table) (links : CellLinks) → AreLinks pages frame links → ((home : Home) → ¬ IsCellsFault pages frame table home) → HaveOneMap pages links
have_one_map pages frame table links are none at in_use cell stands = once pages frame table none at cell (used_by pages frame links are at cell in_use stands)
