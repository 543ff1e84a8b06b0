-- What is asked of single cells of a domain stands on after a call on a tag.
use Rattle.std.proofs.Common.{◌≡◌, ◌∙◌, ◌⊎◌, ◌≤◌, ◌||◌, ◌&&◌, inl, inr, ℕ, zero, suc, Bool, true, false, not, nat_eq, nat_le, List, [], ◌∷◌, Option, Some, None, IfSome, IsSomeAnd, is_some, Contains, slice_get, refl, sym, ap, subst, arith, ⊎_elim}
use Rattle.std.proofs.lemmas.Bool.{cases_Bool, eq-eqb, eqb-true, or_parts, true≢false}
use Rattle.std.specs.List.{AllByRecursion, list_any}
use Rattle.std.specs.Option.{option_and_then, option_map_or}
use Rattle.domain_standing.specs.domain_base.declared.place.CellAt.{CellAt}
use Rattle.domain_standing.specs.domain_base.declared.place.Home.{Home}
use Rattle.domain_standing.specs.domain_base.declared.place.Kind.{Kind}
use Rattle.domain_standing.specs.domain_base.declared.place.Kind.TheVariants.{Directory, File}
use Rattle.domain_standing.specs.domain_base.declared.place.Tag.{Tag}
use Rattle.domain_standing.specs.domain_base.declared.version.Version.{Version}
use Rattle.domain_standing.specs.domain_base.declared.version.Version.TheVariants.{Four, Three}
use Rattle.domain_standing.specs.page_store.Bitfiles.{same_tag}
use Rattle.domain_standing.specs.cell_records.Records.{kind_of, last_kind}
use Rattle.domain_standing.specs.cell_records.declared.record.Leftover.TheVariants.{Remove, Trim}
use Rattle.domain_standing.specs.cell_records.declared.record.Record.{Record}
use Rattle.domain_standing.specs.cell_records.declared.record.Record.TheVariants as written
use Rattle.domain_standing.specs.metadata_cells.Cell.{Cell, record_of}
use Rattle.domain_standing.specs.metadata_cells.Chain.{PlacedCell, StandsAt}
use Rattle.domain_standing.specs.metadata_cells.declared.head.CellHead.{CellHead}
use Rattle.domain_standing.specs.metadata_cells.declared.head.CellKind.TheVariants.{Chain, Primary}
use Rattle.domain_standing.proofs.OfMetadataCells.Unique.{one_stands}
use Rattle.domain_standing.specs.tag_dirs.declared.dir.TagPlace.{TagPlace}
use Rattle.domain_standing.specs.tag_dirs.Directory.{IsDirectory, cell_of}
use Rattle.domain_standing.specs.extent_records.Writing.{chain_kind, most_rows, short_kind}
use Rattle.domain_standing.specs.free_cells.Cells.{table_of}
use Rattle.domain_standing.specs.file_chains.FileChanges.{AreOnTables, SameFirst, map_kinds, other_records}
use Rattle.domain_standing.specs.file_chains.Files.{AreFile, IsFile, IsMapCell, has_rows, places_of}
use Rattle.domain_standing.proofs.OfFileChains.ChainChanges.{stand_file}
use Rattle.domain_standing.proofs.OfFileChains.MapRecords.{value_has_rows}
use Rattle.domain_standing.proofs.OfFileChains.Replaced.{all_filter, filter_false}
use Rattle.domain_standing.specs.fileset_files.declared.attributes.Attributes.{Attributes}
use Rattle.domain_standing.specs.fileset_files.declared.new_cells.NewFile.{NewFile}
use Rattle.domain_standing.specs.fileset_files.Changes.{CanSay, kind_number, says_attributes, says_parent, says_removed, with_attributes, with_first}
use Rattle.domain_standing.specs.fileset_files.Creation.{SaysNew, new_attributes, new_parent}
use Rattle.domain_standing.specs.fileset_files.Files.{AreFiles, Chains, IsOf, LeadsToFile, attributes_of, first_record, is_first_kind, is_removed, of_live, says_remove}
use Rattle.domain_standing.specs.fileset_files.Truncation.{IsLowered, resized, says_size, says_truncated}
use Rattle.domain_standing.proofs.OfFilesetFiles.FirstCell.{find_put}
use Rattle.domain_standing.proofs.OfFilesetFiles.OneFile.{tags_same}
use Rattle.domain_standing.proofs.OfFilesetFiles.Room.{attributes_kind}
use Rattle.domain_standing.proofs.OfFilesetFiles.Tags.{cell_same, pages_same}
use Rattle.domain_standing.proofs.OfFilesetFiles.Truncated.{resized_kind}
use Rattle.domain_standing.specs.fileset_table.Table.{Table}
use Rattle.domain_standing.specs.fileset_table.declared.slot.SlotItem.{SlotItem}
use Rattle.domain_standing.specs.fileset_table.declared.slot.SlotItem.TheVariants as slot
use Rattle.domain_standing.specs.release_list.Standing.{Files, with_file}
use Rattle.domain_standing.proofs.OfReleaseList.Firsts.{first_same}
use Rattle.domain_standing.proofs.OfReleaseList.Spread.{none_not, some_same}
use Rattle.domain_standing.proofs.OfReleaseList.Standings.{file_other, file_there, same_or_not, stand_chain, standing}
use Rattle.domain_standing.specs.release_steps.Calls.{Call, Drops, FilesetNow, Gives, Makes, Refuses, SetsFirst, StandsWell, cut, described, dropped, given, indexed, made, moved, put_in, refused}
use Rattle.domain_standing.specs.release_steps.Tags.{start_of}
use Rattle.domain_standing.proofs.OfReleaseSteps.BesideCalls.{call_beside}
use Rattle.domain_standing.proofs.OfReleaseSteps.CallTables.{chain_put}
use Rattle.domain_standing.proofs.OfReleaseSteps.CallsWell.{stands_call}
use Rattle.domain_standing.proofs.OfReleaseSteps.FirstWell.{are_file, files_left, no_chain, tag_now as tag_set}
use Rattle.domain_standing.proofs.OfReleaseSteps.MakeWell.{tag_now as tag_made}
use Rattle.domain_standing.proofs.OfReleaseSteps.StillAmong.{file_of_tag}
use Rattle.domain_standing.proofs.OfReleaseSteps.TagCalls.{same_call}
use Rattle.domain_standing.proofs.OfReleaseSteps.TagFile.{file_is}
use Rattle.domain_standing.specs.domain_layout.CellRules.{agree, has_first_records, has_its_kinds, has_kind, is_good_first, item_of, keeps_well, of_clone, of_original, says_directory}
use Rattle.domain_standing.specs.domain_layout.Layout.{AreTagPlaces, first_tag_of}
use Rattle.domain_standing.specs.domain_layout.Owners.{IsOnTable}
use Rattle.domain_standing.specs.domain_layout.TagRules.{IsLate}
use Rattle.domain_standing.specs.Chains.{HasFilesAmong, IndexesAt, StandsInSlot}
use Rattle.domain_standing.specs.Domain.{DomainNow, item_in, layout_of, named_by}
use Rattle.domain_standing.specs.Rest.{HasNoHoles, IsOfOriginal, SaysTheRest, StaysInOriginal}
use Rattle.standing_laws.specs.Leads.{IsLiveOf, LeadsOn, MayCall, StandsBelow, fileset_now}
use Rattle.standing_laws.proofs.CellsNow.{CellsGoOn, all_in, cell_was, dropped_cells, given_cells, in_or_out, later_chain, made_cells, placed, refused_cells, set_cells}
use Rattle.standing_laws.proofs.RestFirst.{AreFirsts, AreKnown, SaysWell, cut_well, described_well, low_kind, one_firsts, put_in_well, removed_well, sized_well}
use Rattle.standing_laws.proofs.RestRecords.{AreKinds, all_first, first_alike, first_no_holes, good_original, has_by_map, kinds_by_maps, kinds_of_maps, kinds_put, kinds_there, late_resized, late_said, says_keeps}
use Rattle.standing_laws.proofs.TablesStand.{led, led_is, member_of_table, other_tag_page, together_now, used}

-- ---- over a call

pub record RestGoesOn (version : Version) (table : Table) (tag : Tag) (chains_now : Chains) (files files_now : Files) (after : List PlacedCell) : Type 0 where
  pub known : (c : PlacedCell) → Contains after c → AreKnown version c.cell.records
  pub good : (c : PlacedCell) → Contains after c → c.cell.head.kind ≡ Primary → is_good_first table c.cell ≡ true
  pub births : (cs : List PlacedCell) → chains_now tag ≡ Some cs → (value : Record) → first_record 1 cs ≡ Some value → ¬ IsLate table.made value
  pub holes : (at : CellAt) (cs : List PlacedCell) → files_now at ≡ Some cs → is_removed cs ≡ false → (files at ≡ Some cs) ⊎ AllByRecursion HasNoHoles cs

pub record AllGoesOn (version : Version) (table : Table) (tag : Tag) (old new : FilesetNow) : Type 0 where
  pub after : List PlacedCell
  pub cells : CellsGoOn old new after
  pub rest : RestGoesOn version table tag new.chains old.domain.files new.domain.files after

-- ---- a new file

new_map : (version : Version) (rs : List Record) → map_kinds rs ≡ short_kind version ∷ [] → not (agree (has_kind 4 rs) (has_kind 14 rs)) ≡ true
new_map Three rs is = λ i. not (agree ((has_by_map 4 refl rs ∙ ap (list_any (λ j. nat_eq j 4)) is) i) ((has_by_map 14 refl rs ∙ ap (list_any (λ j. nat_eq j 14)) is) i))
new_map Four rs is = λ i. not (agree ((has_by_map 4 refl rs ∙ ap (list_any (λ j. nat_eq j 4)) is) i) ((has_by_map 14 refl rs ∙ ap (list_any (λ j. nat_eq j 14)) is) i))

short_known : (version : Version) → short_kind version ≤ last_kind version
short_known Three = omega arith
short_known Four = omega arith

not_short : (version : Version) (k : ℕ) → k ≤ 3 → ¬ k ≡ short_kind version
not_short Three k low is = omega (arith, low, is)
not_short Four k low is = omega (arith, low, is)

module _ (version : Version) (what : NewFile) (tag : Tag) (table : Table) (cell : Cell) (says : SaysNew version what tag cell.records) where
  new_known : AreKnown version cell.records
  new_known = kinds_there (λ k. k ≤ last_kind version) cell.records (λ kind. ⊎_elim
      (λ one. inl (subst (λ (k : ℕ). k ≤ last_kind version) (sym (eqb-true kind 1 one)) (low_kind version 1 (omega arith))))
      (λ not_one. ⊎_elim
      (λ ten. inl (subst (λ (k : ℕ). k ≤ last_kind version) (sym (eqb-true kind 10 ten)) (low_kind version 10 (omega arith))))
      (λ not_ten. ⊎_elim
      (λ short. inl (subst (λ (k : ℕ). k ≤ last_kind version) (sym (eqb-true kind (short_kind version) short)) (short_known version)))
      (λ not_map. inr (says.others kind (differ kind 1 not_one) (differ kind 10 not_ten) (differ kind (short_kind version) not_map)))
      (cases_Bool (nat_eq kind (short_kind version))))
      (cases_Bool (nat_eq kind 10)))
      (cases_Bool (nat_eq kind 1)))
    where
      differ : (a b : ℕ) → nat_eq a b ≡ false → ¬ a ≡ b
      differ a b other same = true≢false (sym (eq-eqb a b same) ∙ other)

  new_good : AreFirsts cell.records → of_clone (item_of table cell.head) ≡ false → is_good_first table cell ≡ true
  new_good firsts no_clone = good_original table cell records no_clone kinds keeps
    where
      records : has_first_records cell.records ≡ true
      records = λ i. ap is_some says.attributes i && new_map version cell.records says.map i && all_first cell.records firsts i

      by_kind : (kind : Kind) → agree (is_some (new_parent kind tag)) (nat_eq (kind_number kind) 2) ≡ true
      by_kind File = refl
      by_kind Directory = refl

      kinds : has_its_kinds false cell.records ≡ true
      kinds = (λ i. agree (ap is_some (says.others 2 (λ e. omega (arith, e)) (λ e. omega (arith, e)) (not_short version 2 (omega arith))) i) false
          && agree (ap is_some says.parent i) (option_map_or says_directory (says.attributes i) false)) ∙ by_kind what.kind

      keeps : says_keeps cell.records ≡ true
      keeps = ap (λ o. option_map_or (λ r. keeps_well r (has_kind 6 cell.records)) o false) says.attributes

  new_births : what.birth ≤ table.made → (value : Record) → record_of 1 cell.records ≡ Some value → ¬ IsLate table.made value
  new_births early value is late = ⊎_elim (λ born. omega (arith, early, born)) (λ unsynced. omega (arith, unsynced))
      (subst (IsLate table.made) (sym (some_same (new_attributes what) value (sym says.attributes ∙ is))) late)

-- ---- a file with a page more

chain_known : (version : Version) → chain_kind version ≤ last_kind version
chain_known Three = omega arith
chain_known Four = omega arith

chain_not_holes : (version : Version) → nat_eq (chain_kind version) 5 ≡ false
chain_not_holes Three = refl
chain_not_holes Four = refl

all_not : (ks : List ℕ) → list_any (λ j. nat_eq j 5) ks ≡ false → AllByRecursion (λ k. nat_eq k 5 ≡ false) ks
all_not [] none = tt
all_not (k ∷ ks) none = let both = or_parts (nat_eq k 5) (list_any (λ j. nat_eq j 5) ks) none in (both.0, all_not ks both.1)

none_of : (ks : List ℕ) → AllByRecursion (λ k. nat_eq k 5 ≡ false) ks → list_any (λ j. nat_eq j 5) ks ≡ false
none_of [] all = refl
none_of (k ∷ ks) all = ap (λ (b : Bool). b || list_any (λ j. nat_eq j 5) ks) all.0 ∙ none_of ks all.1

-- a later cell has no record but the one that says where pages stand
alone : (P : ℕ → Type 0) (cell : Cell) → IsMapCell cell → AllByRecursion P (map_kinds cell.records) → AreKinds P cell.records
alone P cell is maps = kinds_by_maps P cell.records
    (subst (λ rs. AreKinds P (other_records rs)) (sym is.only) (subst (AreKinds P) (sym (filter_false (λ r. not (has_rows r)) is.value [] (ap not (value_has_rows is.value is.is_map)))) tt))
    maps

-- ---- the domain

module _ (number : ℕ) (tag : Tag) (d now : DomainNow) (chains chains_now : Chains) (files files_now : Files) (indexes : IndexesAt) (below : StandsBelow d files indexes) (s : LeadsOn number tag d now chains chains_now files files_now) where
  abbrev old : FilesetNow
  old = fileset_now d number chains files

  abbrev new : FilesetNow
  new = fileset_now now number chains_now files_now

  -- ---- a tag's file as it was

  module _ (t : Tag) (first : PlacedCell) (rest : List PlacedCell) (is : chains t ≡ Some (first ∷ rest)) where
    file_was : AreFile d.pages first rest
    file_was = are_file number (d.tags number) d.pages chains s.well.together.files t first rest is

    led_was : LeadsToFile number (d.tags number) d.pages t (first ∷ rest)
    led_was = subst (λ o. IfSome o (LeadsToFile number (d.tags number) d.pages t)) is (s.well.together.files.some t)

    on_was : AreOnTables d.cells (first ∷ rest)
    on_was = subst (λ o. IfSome o (AreOnTables d.cells)) is (s.well.together.on_tables t)

    on_table : (c : PlacedCell) → Contains (first ∷ rest) c → IsOnTable d.pages (layout_of d) c.at c.cell
    on_table c inside =
        let on = all_in (λ (c : PlacedCell). Contains (table_of d.cells c.at.vol) c.at.page) (first ∷ rest) on_was c inside in
        record {
          member = member_of_table number tag d now chains chains_now files files_now indexes below s c.at.vol c.at.page on;
          table = on;
          stands = all_in (λ (c : PlacedCell). StandsAt d.pages c.at c.cell) (first ∷ rest) (stand_file d.pages first.at (first ∷ rest) (refl, file_was)) c inside;
        }

    known_was : (c : PlacedCell) → Contains (first ∷ rest) c → AreKnown d.frame.version c.cell.records
    known_was c inside = below.rest.kinds c.at c.cell (on_table c inside)

    item_was : item_of d.table first.cell.head ≡ Some (slot.Original s.entry)
    item_was = ap (option_and_then (slice_get d.table.slots)) led_was.is_of.2 ∙ s.original

    live_was : is_removed (first ∷ rest) ≡ false
    live_was = subst (λ o. IfSome o (λ cs. is_removed cs ≡ false)) is (s.well.among.live t)

    leads_was : cell_of d.pages (d.tags number) t ≡ Some first.at
    leads_was = by_cell (cell_of d.pages (d.tags number) t) led_was.leads
      where
        by_cell : (o : Option CellAt) → IsSomeAnd o (λ at. IsFile d.pages at (first ∷ rest)) → o ≡ Some first.at
        by_cell None leads = absurd leads
        by_cell (Some at) leads = ap Some (sym leads.0)

    well_was : SaysWell d.frame.version d.table first.cell
    well_was = record {
      known = known_was first (0, omega arith, refl);
      good = below.rest.firsts first.at first.cell (on_table first (0, omega arith, refl)) file_was.primary;
      births = λ value has. below.rest.births first.at first.cell value (record { number = number; original = ap of_original s.original; tag = t; leads = leads_was }) file_was.links.stands has;
    }

    holes_was : AllByRecursion HasNoHoles (first ∷ rest)
    holes_was = below.rest.holes first.at (first ∷ rest) (file_is number (d.tags number) d.pages chains s.well.together.files files s.well.among.same t (first ∷ rest) is first.at refl) (ap of_original item_was, live_was)

  births_was : (t : Tag) (cs : List PlacedCell) → chains t ≡ Some cs → (value : Record) → first_record 1 cs ≡ Some value → ¬ IsLate d.table.made value
  births_was t [] is value has late = none_not value has
  births_was t (first ∷ rest) is value has late = (well_was t first rest is).births value has late

  abbrev Rest : List PlacedCell → Type 0
  Rest after = RestGoesOn d.frame.version d.table tag chains_now files files_now after

  -- ---- each call

  refused_rest : Refuses old new → Rest []
  refused_rest t = record {
    known = λ c inside. absurd (omega (arith, inside.1));
    good = λ c inside. absurd (omega (arith, inside.1));
    births = λ cs is. births_was tag cs (sym (ap (λ (c : Chains). c tag) t.chains) ∙ is);
    holes = λ at cs is live. inl (sym (ap (λ (f : Files). f at) t.files) ∙ is);
  }

  set_rest : (says : Cell → Cell) (t : SetsFirst number tag says old new) → SaysWell d.frame.version d.table (says t.first.cell) → AreFirsts (says t.first.cell).records → Rest (record { at = t.first.at; cell = says t.first.cell } ∷ [])
  set_rest says t well firsts = record {
    known = all_in (λ (c : PlacedCell). AreKnown d.frame.version c.cell.records) (record { at = t.first.at; cell = says t.first.cell } ∷ []) (well.known, tt);
    good = λ c inside primary. all_in (λ (c : PlacedCell). is_good_first d.table c.cell ≡ true) (record { at = t.first.at; cell = says t.first.cell } ∷ []) (well.good, tt) c inside;
    births = λ cs is value has. well.births value (ap (first_record 1) (some_same (with_first says (t.first ∷ t.rest)) cs (sym (ap (λ (c : Chains). c tag) t.chains ∙ tag_set number tag old new s.well says t) ∙ is)) ∙ has);
    holes = λ at cs is live. ⊎_elim
        (λ same. inr (subst (AllByRecursion HasNoHoles)
        (some_same (with_first says (t.first ∷ t.rest)) cs (sym (ap (λ (f : Files). f at) t.files ∙ ap (with_file t.first.at (Some (with_first says (t.first ∷ t.rest))) files) same ∙ file_there t.first.at (Some (with_first says (t.first ∷ t.rest))) files) ∙ is))
        (first_no_holes (says t.first.cell).records firsts, (holes_was tag t.first t.rest t.is).1)))
        (λ other. inl (sym (ap (λ (f : Files). f at) t.files ∙ file_other t.first.at (Some (with_first says (t.first ∷ t.rest))) files at other) ∙ is))
        (same_or_not at t.first.at);
  }

  dropped_rest : (t : Drops number tag old new) → Rest (record { at = t.first.at; cell = says_removed t.first.cell } ∷ [])
  dropped_rest t = record {
    known = all_in (λ (c : PlacedCell). AreKnown d.frame.version c.cell.records) (record { at = t.first.at; cell = says_removed t.first.cell } ∷ []) (well.known, tt);
    good = λ c inside primary. all_in (λ (c : PlacedCell). is_good_first d.table c.cell ≡ true) (record { at = t.first.at; cell = says_removed t.first.cell } ∷ []) (well.good, tt) c inside;
    births = λ cs is. absurd (none_not cs (sym (ap (λ (c : Chains). c tag) t.chains ∙ no_chain number tag old new s.well t) ∙ is));
    holes = λ at cs is live. ⊎_elim
        (λ same. absurd (true≢false (sym removed ∙ ap is_removed (some_same (with_first says_removed (t.first ∷ t.rest)) cs (sym (ap (λ (f : Files). f at) left ∙ ap (with_file t.first.at (Some (with_first says_removed (t.first ∷ t.rest))) files) same ∙ file_there t.first.at (Some (with_first says_removed (t.first ∷ t.rest))) files) ∙ is)) ∙ live)))
        (λ other. inl (sym (ap (λ (f : Files). f at) left ∙ file_other t.first.at (Some (with_first says_removed (t.first ∷ t.rest))) files at other) ∙ is))
        (same_or_not at t.first.at);
  }
    where
      left : files_now ≡ with_file t.first.at (Some (with_first says_removed (t.first ∷ t.rest))) files
      left = files_left number tag old new s.well t

      removed : is_removed (with_first says_removed (t.first ∷ t.rest)) ≡ true
      removed = ap (λ o. option_map_or says_remove o false) (find_put 6 (Some (written.Pending Remove)) t.first.cell.records refl)

      firsts : AreFirsts t.first.cell.records
      firsts = (led_was tag t.first t.rest t.is).kinds

      well : SaysWell d.frame.version d.table (says_removed t.first.cell)
      well = removed_well d.frame.version d.table t.first t.rest (well_was tag t.first t.rest t.is) firsts (live_was tag t.first t.rest t.is)
          (kinds_put (λ k. is_first_kind k ≡ true) 6 (Some (written.Pending Remove)) t.first.cell.records firsts refl)

  made_rest : (t : Makes number d.frame.version tag old new) → t.what.birth ≤ d.table.made → Rest (t.creates.first ∷ [])
  made_rest t early = record {
    known = all_in (λ (c : PlacedCell). AreKnown d.frame.version c.cell.records) (t.creates.first ∷ []) (new_known d.frame.version t.what tag d.table t.creates.first.cell t.creates.says, tt);
    good = λ c inside primary. all_in (λ (c : PlacedCell). is_good_first d.table c.cell ≡ true) (t.creates.first ∷ []) (new_good d.frame.version t.what tag d.table t.creates.first.cell t.creates.says led.kinds (ap of_clone item), tt) c inside;
    births = λ cs is value has. new_births d.frame.version t.what tag d.table t.creates.first.cell t.creates.says early value
        (ap (first_record 1) (some_same (t.creates.first ∷ []) cs (sym (ap (λ (c : Chains). c tag) t.chains ∙ tag_made number d.frame.version tag old new s.well t) ∙ is)) ∙ has);
    holes = λ at cs is live. ⊎_elim
        (λ same. inr (subst (AllByRecursion HasNoHoles)
        (some_same (t.creates.first ∷ []) cs (sym (ap (λ (f : Files). f at) t.files ∙ ap (with_file t.creates.first.at (Some (t.creates.first ∷ [])) files) same ∙ file_there t.creates.first.at (Some (t.creates.first ∷ [])) files) ∙ is))
        (first_no_holes t.creates.first.cell.records led.kinds, tt)))
        (λ other. inl (sym (ap (λ (f : Files). f at) t.files ∙ file_other t.creates.first.at (Some (t.creates.first ∷ [])) files at other) ∙ is))
        (same_or_not at t.creates.first.at);
  }
    where
      led : LeadsToFile number (now.tags number) now.pages tag (t.creates.first ∷ [])
      led = subst (λ o. IfSome o (LeadsToFile number (now.tags number) now.pages tag)) (tag_made number d.frame.version tag old new s.well t) (t.creates.together.files.some tag)

      item : item_of d.table t.creates.first.cell.head ≡ Some (slot.Original s.entry)
      item = ap (option_and_then (slice_get d.table.slots)) led.is_of.2 ∙ s.original

  -- ---- a page more

  module _ (t : Gives number d.frame.version tag old new) where
    -- in records of which kinds pages stand then
    maps_now : (P : ℕ → Type 0) → P (chain_kind d.frame.version) → ((c : PlacedCell) → Contains t.chain c → AllByRecursion P (map_kinds c.cell.records)) → (c : PlacedCell) → Contains t.puts.change.change.changes.after c → AllByRecursion P (map_kinds c.cell.records)
    maps_now P joined was c inside = ⊎_elim
        (λ stays. let a = placed t.chain c.at stays in subst (AllByRecursion P) (sym (t.puts.change.change.same_kinds a.0 c a.1 inside (sym a.2))) (was a.0 a.1))
        (λ more. subst (AllByRecursion P) (sym (t.puts.change.change.joined c inside more).kind) (joined, tt))
        (in_or_out t.chain c.at)

    module _ (a : PlacedCell) (xs : List PlacedCell) (chain_is : t.chain ≡ a ∷ xs) (f : PlacedCell) (r : List PlacedCell) (after_is : t.puts.change.change.changes.after ≡ f ∷ r) where
      is_was : chains tag ≡ Some (a ∷ xs)
      is_was = t.puts.is ∙ ap Some chain_is

      same : SameFirst (a ∷ xs) (f ∷ r)
      same = subst (λ c. SameFirst c (f ∷ r)) chain_is (subst (SameFirst t.chain) after_is t.puts.change.change.changes.first)

      file_now : AreFile now.pages f r
      file_now = (subst (IsFile now.pages t.puts.change.start) after_is t.puts.change.change.changes.is_file).1

      first_kinds : (P : ℕ → Type 0) → AreKinds P a.cell.records → AreKinds P f.cell.records
      first_kinds P all = kinds_by_maps P f.cell.records
          (subst (AreKinds P) (sym same.2) (all_filter (λ r. P (kind_of r)) (λ r. not (has_rows r)) a.cell.records all))
          (subst (AllByRecursion P) (sym same.3) (kinds_of_maps P a.cell.records all))

      firsts_was : AreFirsts a.cell.records
      firsts_was = (led_was tag a xs is_was).kinds

      firsts_now : AreFirsts f.cell.records
      firsts_now = first_kinds (λ k. is_first_kind k ≡ true) firsts_was

      later_maps : (P : ℕ → Type 0) → P (chain_kind d.frame.version) → ((c : PlacedCell) → Contains (a ∷ xs) c → AllByRecursion P (map_kinds c.cell.records)) → (c : PlacedCell) → Contains r c → AllByRecursion P (map_kinds c.cell.records)
      later_maps P joined was c inside = maps_now P joined (λ c inside. was c (subst (λ cs. Contains cs c) chain_is inside)) c (subst (λ cs. Contains cs c) (sym after_is) (suc inside.0, omega (arith, inside.1), inside.2))

      later_is : (c : PlacedCell) → Contains r c → IsMapCell c.cell
      later_is = all_in (λ (c : PlacedCell). IsMapCell c.cell) r file_now.others

      same_has : (k : ℕ) → nat_le 1 (most_rows k) ≡ false → record_of k f.cell.records ≡ record_of k a.cell.records
      same_has k none = first_same k none (a ∷ xs) (f ∷ r) same

      same_map : (k : ℕ) → nat_le 1 (most_rows k) ≡ true → has_kind k f.cell.records ≡ has_kind k a.cell.records
      same_map k rows = has_by_map k rows f.cell.records ∙ ap (list_any (λ j. nat_eq j k)) same.3 ∙ sym (has_by_map k rows a.cell.records)

      good_first : is_good_first d.table f.cell ≡ true
      good_first = first_alike d.table a.cell f.cell (ap (λ (h : CellHead). item_of d.table h) same.1) (record {
        one = ap is_some (same_has 1 refl);
        clone = ap is_some (same_has 2 refl);
        four = same_map 4 refl;
        parent = ap is_some (same_has 10 refl);
        fourteen = same_map 14 refl;
        kinds = all_first f.cell.records firsts_now ∙ sym (all_first a.cell.records firsts_was);
        directory = ap (λ o. option_map_or says_directory o false) (same_has 1 refl);
        removed = ap (λ o. option_map_or says_remove o false) (same_has 6 refl);
        keeps = λ i. option_map_or (λ r. keeps_well r (is_some (same_has 6 refl i))) (same_has 1 refl i) false;
      }) ∙ (well_was tag a xs is_was).good

      known_later : (c : PlacedCell) → Contains r c → AreKnown d.frame.version c.cell.records
      known_later c inside = alone (λ k. k ≤ last_kind d.frame.version) c.cell (later_is c inside)
          (later_maps (λ k. k ≤ last_kind d.frame.version) (chain_known d.frame.version) (λ c inside. kinds_of_maps (λ k. k ≤ last_kind d.frame.version) c.cell.records (known_was tag a xs is_was c inside)) c inside)

      no_holes_later : (c : PlacedCell) → Contains r c → HasNoHoles c
      no_holes_later c inside = has_by_map 5 refl c.cell.records ∙ none_of (map_kinds c.cell.records)
          (later_maps (λ k. nat_eq k 5 ≡ false) (chain_not_holes d.frame.version)
          (λ c inside. all_not (map_kinds c.cell.records) (sym (has_by_map 5 refl c.cell.records) ∙ all_in HasNoHoles (a ∷ xs) (holes_was tag a xs is_was) c inside)) c inside)

      known_all : (c : PlacedCell) → Contains (f ∷ r) c → AreKnown d.frame.version c.cell.records
      known_all c (zero, within, is) = subst (λ (c : PlacedCell). AreKnown d.frame.version c.cell.records) is (first_kinds (λ k. k ≤ last_kind d.frame.version) (known_was tag a xs is_was a (0, omega arith, refl)))
      known_all c (suc k, within, is) = known_later c (k, omega (arith, within), is)

      good_all : (c : PlacedCell) → Contains (f ∷ r) c → c.cell.head.kind ≡ Primary → is_good_first d.table c.cell ≡ true
      good_all c (zero, within, is) primary = subst (λ (c : PlacedCell). is_good_first d.table c.cell ≡ true) is good_first
      good_all c (suc k, within, is) primary =
          let chain = all_in (λ (c : PlacedCell). c.cell.head.kind ≡ Chain) r (later_chain now.pages f.cell.head r (inl file_now.primary) file_now.links.follow) c (k, omega (arith, within), is) in
          let e : Primary ≡ Chain = sym primary ∙ chain in absurd (cc)

      all_no_holes : (cs : List PlacedCell) → ((c : PlacedCell) → Contains cs c → HasNoHoles c) → AllByRecursion HasNoHoles cs
      all_no_holes [] none = tt
      all_no_holes (c ∷ cs) none = (none c (0, omega arith, refl), all_no_holes cs (λ x inside. none x (suc inside.0, omega (arith, inside.1), inside.2)))

      holes_all : AllByRecursion HasNoHoles (f ∷ r)
      holes_all = (first_no_holes f.cell.records firsts_now, all_no_holes r no_holes_later)

      given_rest : Rest t.puts.change.change.changes.after
      given_rest = subst Rest (sym after_is) (record {
        known = known_all;
        good = good_all;
        births = λ cs is value has. births_was tag (a ∷ xs) is_was value
            (sym (same_has 1 refl) ∙ ap (first_record 1) (some_same (f ∷ r) cs (ap Some (sym after_is) ∙ sym (ap (λ (c : Chains). c tag) t.puts.chains ∙ chain_put number d.frame.version tag old new t.home t.chain t.puts) ∙ is)) ∙ has);
        holes = λ at cs is live. ⊎_elim
            (λ here. inr (subst (AllByRecursion HasNoHoles)
            (some_same (f ∷ r) cs (ap Some (sym after_is) ∙ sym (ap (λ (x : Files). x at) t.puts.files ∙ ap (with_file t.puts.change.start (Some t.puts.change.change.changes.after) files) here ∙ file_there t.puts.change.start (Some t.puts.change.change.changes.after) files) ∙ is))
            holes_all))
            (λ other. inl (sym (ap (λ (x : Files). x at) t.puts.files ∙ file_other t.puts.change.start (Some t.puts.change.change.changes.after) files at other) ∙ is))
            (same_or_not at t.puts.change.start);
      })

    given_goes : Rest t.puts.change.change.changes.after
    given_goes = by_chains t.chain refl t.puts.change.change.changes.after refl t.puts.change.change.changes.first
      where
        by_chains : (cs : List PlacedCell) → t.chain ≡ cs → (after : List PlacedCell) → t.puts.change.change.changes.after ≡ after → SameFirst cs after → Rest t.puts.change.change.changes.after
        by_chains [] chain_is after after_is same = absurd same
        by_chains (a ∷ xs) chain_is [] after_is same = absurd same
        by_chains (a ∷ xs) chain_is (f ∷ r) after_is like = given_rest a xs chain_is f r after_is

  -- ---- cut

  cut_rest : (size : ℕ) (lowered : Option ℕ) (t : SetsFirst number tag (says_truncated size lowered) old new) → IsSomeAnd (chains tag) (λ chain. IsLowered size chain lowered) → Rest (record { at = t.first.at; cell = says_truncated size lowered t.first.cell } ∷ [])
  cut_rest size None t may = set_rest (says_truncated size None) t (sized_well d.frame.version d.table t.first t.rest (well_was tag t.first t.rest t.is) firsts (live_was tag t.first t.rest t.is) size firsts_now) firsts_now
    where
      firsts : AreFirsts t.first.cell.records
      firsts = (led_was tag t.first t.rest t.is).kinds

      firsts_now : AreFirsts (says_size size None t.first.cell).records
      firsts_now = one_firsts d.frame.version d.table t.first.cell (well_was tag t.first t.rest t.is) (resized size None) (resized_kind size None) (late_resized size None d.table.made) firsts
  cut_rest size (Some from) t may = set_rest (says_truncated size (Some from)) t (cut_well d.frame.version d.table t.first t.rest (well_was tag t.first t.rest t.is) firsts (live_was tag t.first t.rest t.is) (ap of_original (item_was tag t.first t.rest t.is)) size from (places_of (t.first ∷ t.rest)) lowered.1 sized firsts_now) firsts_now
    where
      lowered : IsLowered size (t.first ∷ t.rest) (Some from)
      lowered = subst (λ o. IsSomeAnd o (λ chain. IsLowered size chain (Some from))) t.is may

      firsts : AreFirsts t.first.cell.records
      firsts = (led_was tag t.first t.rest t.is).kinds

      sized : AreFirsts (says_size size (Some from) t.first.cell).records
      sized = one_firsts d.frame.version d.table t.first.cell (well_was tag t.first t.rest t.is) (resized size (Some from)) (resized_kind size (Some from)) (late_resized size (Some from) d.table.made) firsts

      firsts_now : AreFirsts (says_truncated size (Some from) t.first.cell).records
      firsts_now = kinds_put (λ k. is_first_kind k ≡ true) 6 (Some (written.Pending Trim)) (says_size size (Some from) t.first.cell).records sized refl

  described_rest : (value : Attributes) (t : SetsFirst number tag (says_attributes value) old new) → CanSay value tag chains → Rest (record { at = t.first.at; cell = says_attributes value t.first.cell } ∷ [])
  described_rest value t can = set_rest (says_attributes value) t
      (described_well d.frame.version d.table t.first t.rest (well_was tag t.first t.rest t.is) firsts (live_was tag t.first t.rest t.is) value (subst (λ o. IsSomeAnd (option_and_then (of_live attributes_of) o) (λ was. was.kind ≡ value.kind)) t.is can.kind) firsts_now)
      firsts_now
    where
      firsts : AreFirsts t.first.cell.records
      firsts = (led_was tag t.first t.rest t.is).kinds

      firsts_now : AreFirsts (says_attributes value t.first.cell).records
      firsts_now = one_firsts d.frame.version d.table t.first.cell (well_was tag t.first t.rest t.is) (with_attributes value) (attributes_kind value) (late_said value d.table.made) firsts

  put_in_rest : (parent : Tag) (t : SetsFirst number tag (says_parent parent) old new) → IsLiveOf Directory (chains tag) → Rest (record { at = t.first.at; cell = says_parent parent t.first.cell } ∷ [])
  put_in_rest parent t may = set_rest (says_parent parent) t
      (put_in_well d.frame.version d.table t.first t.rest (well_was tag t.first t.rest t.is) firsts (live_was tag t.first t.rest t.is) (ap of_original (item_was tag t.first t.rest t.is)) parent (subst (IsLiveOf Directory) t.is may) firsts_now)
      firsts_now
    where
      firsts : AreFirsts t.first.cell.records
      firsts = (led_was tag t.first t.rest t.is).kinds

      firsts_now : AreFirsts (says_parent parent t.first.cell).records
      firsts_now = kinds_put (λ k. is_first_kind k ≡ true) 10 (Some (written.Parent parent.slot parent.seq)) t.first.cell.records firsts refl

  all_go_on : (call : Call number d.frame.version tag old new) → MayCall d.table.made number d.frame.version tag old new call → AllGoesOn d.frame.version d.table tag old new
  all_go_on (refused t) may = record { after = []; cells = refused_cells old new t; rest = refused_rest t }
  all_go_on (given t) may = record { after = t.puts.change.change.changes.after; cells = given_cells number d.frame.version tag old new s.well t; rest = given_goes t }
  all_go_on (moved t) may = absurd may
  all_go_on (described value t) may = record { after = _; cells = set_cells number d.frame.version tag old new s.well _ t; rest = described_rest value t may }
  all_go_on (put_in parent t) may = record { after = _; cells = set_cells number d.frame.version tag old new s.well _ t; rest = put_in_rest parent t may }
  all_go_on (indexed index t) may = absurd may
  all_go_on (cut size lowered t) may = record { after = _; cells = set_cells number d.frame.version tag old new s.well _ t; rest = cut_rest size lowered t may }
  all_go_on (dropped t) may = record { after = _; cells = dropped_cells number d.frame.version tag old new s.well t; rest = dropped_rest t }
  all_go_on (made t) may = record { after = t.creates.first ∷ []; cells = made_cells number d.frame.version tag old new s.well (used number tag d now chains chains_now files files_now indexes below s) t; rest = made_rest t may }

  -- ---- files of other slots

  -- a tag of another slot leads to a cell where it did, and the same cell stands there
  module _ (other : ℕ) (differ : ¬ other ≡ number) (t : Tag) (at : CellAt) (leads : cell_of d.pages (d.tags other) t ≡ Some at) (cell : Cell) (stands : StandsAt now.pages at cell) where
    in_files : HasFilesAmong d files other → StandsAt d.pages at cell
    in_files h = by_chain (h.chains t) refl
      where
        stood_there : (first : PlacedCell) (rest : List PlacedCell) → h.chains t ≡ Some (first ∷ rest) → StandsAt d.pages at cell
        stood_there first rest is = subst (λ (c : Cell). StandsAt d.pages at c) (one_stands now.pages at first.cell cell stands_now stands) stands_old
          where
            led_other : LeadsToFile other (d.tags other) d.pages t (first ∷ rest)
            led_other = subst (λ o. IfSome o (LeadsToFile other (d.tags other) d.pages t)) is (h.are.some t)

            file_other_slot : IsFile d.pages at (first ∷ rest)
            file_other_slot = subst (λ o. IsSomeAnd o (λ a. IsFile d.pages a (first ∷ rest))) leads led_other.leads

            there : files at ≡ Some (first ∷ rest)
            there = file_of_tag files h.chains t (first ∷ rest) at (h.among.same t) is (ap Some file_other_slot.0)

            apart : ¬ option_and_then start_of (chains tag) ≡ Some at
            apart = by_own (chains tag) refl
              where
                one_fileset : (cs : List PlacedCell) → cs ≡ first ∷ rest → IsOf number tag cs → ⊥
                one_fileset cs e is_of = differ (some_same other number (sym led_other.is_of.2 ∙ (subst (IsOf number tag) e is_of).2))

                by_own : (o : Option (List PlacedCell)) → chains tag ≡ o → ¬ option_and_then start_of o ≡ Some at
                by_own None none start = none_not at start
                by_own (Some cs) some start = one_fileset cs
                    (some_same cs (first ∷ rest) (sym (file_of_tag files chains tag cs at (s.well.among.same tag) some start) ∙ there))
                    (subst (λ o. IfSome o (LeadsToFile number (d.tags number) d.pages tag)) some (s.well.together.files.some tag)).is_of

            there_now : files_now at ≡ Some (first ∷ rest)
            there_now = (call_beside number d.frame.version tag old new s.well at (first ∷ rest) there apart s.call).same ∙ there

            well_now : StandsWell number new
            well_now = stands_call number d.frame.version tag old new s.well s.call

            stands_old : StandsAt d.pages at first.cell
            stands_old = subst (λ (a : CellAt). StandsAt d.pages a first.cell) file_other_slot.0 file_other_slot.1.links.stands

            stands_now : StandsAt now.pages at first.cell
            stands_now = subst (λ (a : CellAt). StandsAt now.pages a first.cell) file_other_slot.0
                (stand_chain now.pages at (first ∷ rest) (standing now.space now.cells now.pages files_now well_now.well.together at (first ∷ rest) there_now).stands).0

        by_list : (cs : List PlacedCell) → h.chains t ≡ Some cs → StandsAt d.pages at cell
        by_list [] is = absurd (no_leads (cell_of d.pages (d.tags other) t) (subst (λ o. IfSome o (LeadsToFile other (d.tags other) d.pages t)) is (h.are.some t)).leads)
          where
            no_leads : (o : Option CellAt) → ¬ IsSomeAnd o (λ a. IsFile d.pages a [])
            no_leads None leads = leads
            no_leads (Some a) leads = leads
        by_list (first ∷ rest) is = stood_there first rest is

        by_chain : (o : Option (List PlacedCell)) → h.chains t ≡ o → StandsAt d.pages at cell
        by_chain None is = absurd (none_not at (sym (h.are.none t is) ∙ leads))
        by_chain (Some cs) is = by_list cs is

    by_first : (o : Option Home) → StandsInSlot d files other o → StandsAt d.pages at cell
    by_first None empty = absurd (none_not at (sym (ap (λ (ps : List TagPlace). cell_of d.pages ps t) empty) ∙ leads))
    by_first (Some first) in_slot = ⊎_elim in_files (λ e. absurd (none_not at (sym (e.none t) ∙ leads))) in_slot

  -- each directory is one
  directory_was : (other : ℕ) → (d.tags other ≡ []) ⊎ IsDirectory d.pages (d.tags other)
  directory_was other = by_item (item_in d other) refl (below.chains.slots other)
    where
      by_first : (item : SlotItem) (o : Option Home) → first_tag_of item ≡ o → AreTagPlaces d.pages o (d.tags other) → (d.tags other ≡ []) ⊎ IsDirectory d.pages (d.tags other)
      by_first item None is are = inl are
      by_first item (Some first) is are = inr are.directory

      by_item : (o : Option SlotItem) → item_in d other ≡ o → StandsInSlot d files other (option_and_then first_tag_of o) → (d.tags other ≡ []) ⊎ IsDirectory d.pages (d.tags other)
      by_item None is empty = inl empty
      by_item (Some item) is in_slot = by_first item (first_tag_of item) refl (below.tables.laid.tags other item is)

  cell_stays : (other : ℕ) → ¬ other ≡ number → (t : Tag) → cell_of now.pages (d.tags other) t ≡ cell_of d.pages (d.tags other) t
  cell_stays other differ t = ⊎_elim
      (λ empty. ap (λ (ps : List TagPlace). cell_of now.pages ps t) empty ∙ sym (ap (λ (ps : List TagPlace). cell_of d.pages ps t) empty))
      (λ directory. cell_same d.pages now.pages (d.tags other) directory (pages_same d.pages now.pages (d.tags other) (other_tag_page number tag d now chains chains_now files files_now indexes below s other differ)) t)
      (directory_was other)

  -- ---- all of it

  goes : AllGoesOn d.frame.version d.table tag old new
  goes = all_go_on s.call s.may

  was_or_chain : (at : CellAt) (cell : Cell) → IsOnTable now.pages (layout_of (led number tag d now chains chains_now files files_now indexes below s)) at cell
      → IsOnTable d.pages (layout_of d) at cell ⊎ Contains goes.after (record { at = at; cell = cell })
  was_or_chain at cell on = ⊎_elim
      (λ was. inl (record { member = on.member; table = was.1; stands = was.0 }))
      (λ inside. inr inside)
      (cell_was old new goes.after (used number tag d now chains chains_now files files_now indexes below s) goes.cells (together_now number tag d now chains chains_now files files_now indexes below s).allocated.belong at cell on.stands on.table)

  own_births : (t : Tag) (cs : List PlacedCell) → chains_now t ≡ Some cs → (value : Record) → first_record 1 cs ≡ Some value → ¬ IsLate d.table.made value
  own_births t cs is = ⊎_elim
      (λ same. goes.rest.births cs (ap chains_now (sym (tags_same t tag same)) ∙ is))
      (λ other. births_was t cs (sym (same_call number d.frame.version tag old new t other s.call) ∙ is))
      (cases_Bool (same_tag t tag))

  own_late : (t : Tag) (at : CellAt) (cell : Cell) (value : Record) → cell_of now.pages (now.tags number) t ≡ Some at → StandsAt now.pages at cell → record_of 1 cell.records ≡ Some value → ¬ IsLate d.table.made value
  own_late t at cell value leads stands has = by_chain (chains_now t) refl
    where
      now_files : AreFiles number (now.tags number) now.pages chains_now
      now_files = (together_now number tag d now chains chains_now files files_now indexes below s).files

      by_list : (cs : List PlacedCell) → chains_now t ≡ Some cs → IsFile now.pages at cs → ¬ IsLate d.table.made value
      by_list [] is file = absurd file
      by_list (first ∷ rest) is file = own_births t (first ∷ rest) is value
          (ap (λ (c : Cell). record_of 1 c.records) (one_stands now.pages at first.cell cell (subst (λ (a : CellAt). StandsAt now.pages a first.cell) file.0 file.1.links.stands) stands) ∙ has)

      by_chain : (o : Option (List PlacedCell)) → chains_now t ≡ o → ¬ IsLate d.table.made value
      by_chain None is = absurd (none_not at (sym (now_files.none t is) ∙ leads))
      by_chain (Some cs) is = by_list cs is (subst (λ o. IsSomeAnd o (λ a. IsFile now.pages a cs)) leads (subst (λ o. IfSome o (LeadsToFile number (now.tags number) now.pages t)) is (now_files.some t)).leads)

  births_now : (at : CellAt) (cell : Cell) (value : Record) → IsOfOriginal (led number tag d now chains chains_now files files_now indexes below s) at → StandsAt now.pages at cell → record_of 1 cell.records ≡ Some value → ¬ IsLate d.table.made value
  births_now at cell value o stands has = ⊎_elim
      (λ same. own_late o.tag at cell value (ap (λ (k : ℕ). cell_of now.pages (now.tags k) o.tag) (sym (eqb-true o.number number same)) ∙ o.leads) stands has)
      (λ not_same. other_late (λ e. true≢false (sym (eq-eqb o.number number e) ∙ not_same)))
      (cases_Bool (nat_eq o.number number))
    where
      other_late : ¬ o.number ≡ number → ¬ IsLate d.table.made value
      other_late differ =
          let leads : cell_of d.pages (d.tags o.number) o.tag ≡ Some at = sym (cell_stays o.number differ o.tag) ∙ ap (λ (ps : List TagPlace). cell_of now.pages ps o.tag) (sym (s.tags o.number differ)) ∙ o.leads in
          below.rest.births at cell value (record { number = o.number; original = o.original; tag = o.tag; leads = leads })
          (by_first o.number differ o.tag at leads cell stands (named_by first_tag_of d o.number) (below.chains.slots o.number)) has

  live_of : (chain : List PlacedCell) → StaysInOriginal d chain → is_removed chain ≡ false
  live_of [] stays = absurd stays
  live_of (first ∷ rest) stays = stays.1

  led_rest : SaysTheRest (led number tag d now chains chains_now files files_now indexes below s) files_now
  led_rest = record {
    kinds = λ at cell on. ⊎_elim (λ was. below.rest.kinds at cell was) (λ inside. goes.rest.known (record { at = at; cell = cell }) inside) (was_or_chain at cell on);
    firsts = λ at cell on primary. ⊎_elim (λ was. below.rest.firsts at cell was primary) (λ inside. goes.rest.good (record { at = at; cell = cell }) inside primary) (was_or_chain at cell on);
    births = births_now;
    holes = λ at chain is stays. ⊎_elim (λ was. below.rest.holes at chain was stays) (λ none. none) (goes.rest.holes at chain is (live_of chain stays));
  }

  pub rest_stands : SaysTheRest now files_now
  rest_stands = subst (λ (x : DomainNow). SaysTheRest x files_now) (led_is number tag d now chains chains_now files files_now indexes below s) led_rest
