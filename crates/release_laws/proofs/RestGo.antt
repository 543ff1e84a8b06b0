-- What is asked of single cells of a domain stays so over steps.
use Rattle.std.proofs.Common.{◌≡◌, ◌∙◌, ◌⊎◌, inl, inr, ℕ, zero, suc, ◌≤◌, true, false, List, [], ◌∷◌, Option, Some, None, IfSome, IsSomeAnd, Contains, refl, sym, ap, subst, arith, ⊎_elim}
use Rattle.std.specs.List.{AllByRecursion}
use Rattle.standing_laws.specs.domain_base.declared.place.CellAt.{CellAt}
use Rattle.standing_laws.specs.domain_base.declared.place.Home.{Home}
use Rattle.standing_laws.specs.domain_base.declared.place.Tag.{Tag}
use Rattle.standing_laws.specs.domain_base.declared.version.Version.{Version}
use Rattle.standing_laws.specs.cell_records.declared.record.Record.{Record}
use Rattle.standing_laws.specs.metadata_cells.declared.head.CellKind.TheVariants.{Primary}
use Rattle.standing_laws.specs.metadata_cells.Cell.{Cell, record_of}
use Rattle.standing_laws.specs.metadata_cells.Chain.{PlacedCell, StandsAt}
use Rattle.standing_laws.specs.tag_dirs.Directory.{cell_of}
use Rattle.standing_laws.specs.tag_dirs.declared.dir.TagPlace.{TagPlace}
use Rattle.standing_laws.specs.free_cells.Cells.{table_of}
use Rattle.standing_laws.specs.file_chains.Files.{IsFile}
use Rattle.standing_laws.specs.fileset_files.Files.{LeadsToFile, is_removed}
use Rattle.standing_laws.specs.fileset_table.Table.{Table}
use Rattle.standing_laws.specs.release_list.Standing.{Files}
use Rattle.standing_laws.specs.release_list.Steps.{IsWell, Now, Step}
use Rattle.standing_laws.proofs.OfReleaseList.Spread.{none_not, some_same}
use Rattle.standing_laws.proofs.OfReleaseList.Standings.{same_or_not, standing}
use Rattle.standing_laws.proofs.OfReleaseSteps.StillAmong.{file_of_tag}
use Rattle.standing_laws.specs.domain_layout.CellRules.{IsFirstPlace, is_good_first, item_of, of_original}
use Rattle.standing_laws.specs.domain_layout.Layout.{first_tag_of}
use Rattle.standing_laws.specs.domain_layout.TagRules.{IsLate}
use Rattle.standing_laws.specs.domain_standing.Chains.{HasFilesAmong, IndexesAt, StandsInSlot}
use Rattle.standing_laws.specs.domain_standing.Domain.{DomainNow, all_of, named_by}
use Rattle.standing_laws.specs.domain_standing.Rest.{HasNoHoles, IsOfOriginal, SaysTheRest, StaysInOriginal}
use Rattle.standing_laws.specs.domain_standing.Sources.{StandAlone}
use Rattle.standing_laws.specs.Leads.{StandsBelow}
use Rattle.standing_laws.proofs.RestFirst.{AreKnown, low_kind}
use Rattle.standing_laws.specs.cell_records.Records.{last_kind}
use Rattle.release_laws.specs.Released.{Releases}
use Rattle.release_laws.proofs.CellFates.{FirstsGo}
use Rattle.release_laws.proofs.CellsGo.{cell_was}
use Rattle.release_laws.proofs.Going.{AllGo, by_steps, first_go, go_step}
use Rattle.release_laws.proofs.Led.{alone_was, chains_was, led, led_is, member_of_table, used_was, well_now, well_was}
use Rattle.release_laws.proofs.OneStep.{AreAlone, OneGoes, one_goes}
use Rattle.release_laws.proofs.RestCells.{births_go, good_go, holes_go, item_back, kinds_go, live_back}
use Rattle.release_laws.proofs.SlotsGo.{cells_lead, slots_now}

-- a chain of an original's file that is not to be removed, by the table
abbrev StaysIn : Table → List PlacedCell → Type 0
StaysIn table [] = ⊥
StaysIn table (first ∷ rest) = (of_original (item_of table first.cell.head) ≡ true) × (is_removed (first ∷ rest) ≡ false)

-- it was one before
stays_back : (table : Table) (chain after : List PlacedCell) → FirstsGo chain after → StaysIn table after → StaysIn table chain
stays_back table chain [] firsts stays = absurd stays
stays_back table [] (c ∷ cs) firsts stays = absurd firsts
stays_back table (b ∷ bs) (c ∷ cs) firsts stays = (ap of_original (sym (item_back table b c firsts)) ∙ stays.0, live_back b c firsts stays.1)

all_of_each : (P : PlacedCell → Type 0) (cs : List PlacedCell) → ((c : PlacedCell) → Contains cs c → P c) → AllByRecursion P cs
all_of_each P [] each = tt
all_of_each P (c ∷ cs) each = (each c (0, omega arith, refl), all_of_each P cs (λ x inside. each x (suc inside.0, omega (arith, inside.1), inside.2)))

each_of_all : (P : PlacedCell → Type 0) (cs : List PlacedCell) → AllByRecursion P cs → (c : PlacedCell) → Contains cs c → P c
each_of_all P [] all c inside = absurd (omega (arith, inside.1))
each_of_all P (x ∷ xs) all c (zero, less, is) = subst P is all.0
each_of_all P (x ∷ xs) all c (suc k, less, is) = each_of_all P xs all.1 c (k, omega (arith, less), is)

-- of cells in use, where some are named by originals' tags
record RestIs (apart named : CellAt → Type 0) (version : Version) (table : Table) (first now : Now) : Type 0 where
  go : AllGo apart first now
  kinds : (q : CellAt) (cell : Cell) → StandsAt now.pages q cell → Contains (table_of now.cells q.vol) q.page → AreKnown version cell.records
  firsts : (q : CellAt) (cell : Cell) → StandsAt now.pages q cell → Contains (table_of now.cells q.vol) q.page → cell.head.kind ≡ Primary → is_good_first table cell ≡ true
  births : (q : CellAt) (cell : Cell) → named q → StandsAt now.pages q cell → Contains (table_of now.cells q.vol) q.page → (value : Record) → record_of 1 cell.records ≡ Some value → ¬ IsLate table.made value
  holes : (a : CellAt) (cs : List PlacedCell) → now.files a ≡ Some cs → StaysIn table cs → AllByRecursion HasNoHoles cs

module _ (group : ℕ) (version : Version) (apart named : CellAt → Type 0) (table : Table) (first : Now) where
  rest_step : (old new : Now) → IsWell old → AreAlone old.files → IsWell new → Step group version old new → new.list.tag_pages ≡ old.list.tag_pages → RestIs apart named version table first old → RestIs apart named version table first new
  rest_step old new well alone now step same was = record {
    go = go_step group version apart first old new well now g was.go;
    kinds = λ q cell stands on. let b = cell_was old new well now g was.go.used q cell stands on in
        kinds_go (λ k. k ≤ last_kind version) (low_kind version 1 (omega arith)) (record { at = q; cell = b.0 }) (record { at = q; cell = cell }) b.2 (was.kinds q b.0 b.1 (before q on));
    firsts = λ q cell stands on primary. let b = cell_was old new well now g was.go.used q cell stands on in
        good_go table (record { at = q; cell = b.0 }) (record { at = q; cell = cell }) b.2 primary (λ first. was.firsts q b.0 b.1 (before q on) first);
    births = λ q cell of stands on. let b = cell_was old new well now g was.go.used q cell stands on in
        births_go table.made (record { at = q; cell = b.0 }) (record { at = q; cell = cell }) b.2 (was.births q b.0 of b.1 (before q on));
    holes = holes_now;
  }
    where
      g : OneGoes old new
      g = one_goes group version old new well alone step same

      before : (q : CellAt) → Contains (table_of new.cells q.vol) q.page → Contains (table_of old.cells q.vol) q.page
      before q on = subst (λ (t : List ℕ). Contains t q.page) (g.tables q.vol) on

      no_holes : StaysIn table g.after → AllByRecursion HasNoHoles g.after
      no_holes stays =
          let all = was.holes g.entry.at g.chain g.was (stays_back table g.chain g.after g.cells.firsts stays) in
          all_of_each HasNoHoles g.after (λ c inside. let b = g.cells.each c inside in holes_go b.0 c b.3 (each_of_all HasNoHoles g.chain all b.0 b.1))

      by_end : (cs : List PlacedCell) → new.files g.entry.at ≡ Some cs → StaysIn table cs → (new.files g.entry.at ≡ Some g.after) ⊎ ((new.files g.entry.at ≡ None) × (g.after ≡ [])) → AllByRecursion HasNoHoles cs
      by_end cs is stays (inl there) =
          let after : g.after ≡ cs = some_same g.after cs (sym there ∙ is) in
          subst (AllByRecursion HasNoHoles) after (no_holes (subst (StaysIn table) (sym after) stays))
      by_end cs is stays (inr gone) = absurd (none_not cs (sym gone.0 ∙ is))

      holes_now : (a : CellAt) (cs : List PlacedCell) → new.files a ≡ Some cs → StaysIn table cs → AllByRecursion HasNoHoles cs
      holes_now a cs is stays = ⊎_elim
          (λ here. by_end cs (ap new.files (sym here) ∙ is) stays g.is)
          (λ elsewhere. was.holes a cs (sym (g.beside a elsewhere) ∙ is) stays)
          (same_or_not a g.entry.at)

module _ (group count : ℕ) (d now : DomainNow) (files files_now : Files) (indexes : IndexesAt) (below : StandsBelow d files indexes) (alone : StandAlone d) (s : Releases group count d now files files_now) where
  abbrev it : DomainNow
  it = led group count d now files files_now indexes below alone s

  stays_in : (cs : List PlacedCell) → StaysIn d.table cs → StaysInOriginal d cs
  stays_in [] stays = stays
  stays_in (first ∷ rest) stays = stays

  in_stays : (cs : List PlacedCell) → StaysInOriginal d cs → StaysIn d.table cs
  in_stays [] stays = stays
  in_stays (first ∷ rest) stays = stays

  rest : RestIs (IsFirstPlace d.frame) (IsOfOriginal d) d.frame.version d.table (all_of d files) (all_of it files_now)
  rest = by_steps group d.frame.version (RestIs (IsFirstPlace d.frame) (IsOfOriginal d) d.frame.version d.table (all_of d files))
      (rest_step group d.frame.version (IsFirstPlace d.frame) (IsOfOriginal d) d.table (all_of d files))
      (all_of d files) count (all_of it files_now) (well_was d files indexes below) (alone_was group count d now files files_now indexes below alone s) s.steps s.tag_pages
      (record {
        go = first_go (IsFirstPlace d.frame) (all_of d files) (used_was d files indexes below) (chains_was d files indexes below);
        kinds = λ q cell stands on. below.rest.kinds q cell (record { member = member_of_table d files indexes below q.vol q.page on; table = on; stands = stands });
        firsts = λ q cell stands on primary. below.rest.firsts q cell (record { member = member_of_table d files indexes below q.vol q.page on; table = on; stands = stands }) primary;
        births = λ q cell of stands on value has. below.rest.births q cell value of stands has;
        holes = λ a cs is stays. below.rest.holes a cs is (stays_in cs stays);
      })

  -- ---- a tag leads to a cell on a table

  tagged_on : (n : ℕ) (tag : Tag) (at : CellAt) → cell_of now.pages (d.tags n) tag ≡ Some at → Contains (table_of now.cells at.vol) at.page
  tagged_on n tag at leads = by_first (named_by first_tag_of d n) (slots_now group count d now files files_now indexes below alone s n)
    where
      well : IsWell (all_of it files_now)
      well = well_now group count d now files files_now indexes below alone s

      in_files : HasFilesAmong it files_now n → Contains (table_of now.cells at.vol) at.page
      in_files h = by_chain (h.chains tag) refl
        where
          by_list : (cs : List PlacedCell) → h.chains tag ≡ Some cs → IsFile now.pages at cs → Contains (table_of now.cells at.vol) at.page
          by_list [] is file = absurd file
          by_list (first ∷ rest) is file =
              let there = file_of_tag files_now h.chains tag (first ∷ rest) at (h.among.same tag) is (ap Some file.0) in
              subst (λ (a : CellAt). Contains (table_of now.cells a.vol) a.page) file.0 (standing now.space now.cells now.pages files_now well.together at (first ∷ rest) there).on_tables.0

          by_chain : (o : Option (List PlacedCell)) → h.chains tag ≡ o → Contains (table_of now.cells at.vol) at.page
          by_chain None is = absurd (none_not at (sym (h.are.none tag is) ∙ leads))
          by_chain (Some cs) is = by_list cs is (subst (λ o. IsSomeAnd o (λ a. IsFile now.pages a cs)) leads (subst (λ o. IfSome o (LeadsToFile n (d.tags n) now.pages tag)) is (h.are.some tag)).leads)

      by_first : (o : Option Home) → StandsInSlot it files_now n o → Contains (table_of now.cells at.vol) at.page
      by_first None empty = absurd (none_not at (sym (ap (λ (ps : List TagPlace). cell_of now.pages ps tag) empty) ∙ leads))
      by_first (Some first) in_slot = ⊎_elim in_files (λ e. absurd (none_not at (sym (e.none tag) ∙ leads))) in_slot

  of_original_was : (at : CellAt) → IsOfOriginal it at → IsOfOriginal d at
  of_original_was at of = record {
    number = of.number;
    original = of.original;
    tag = of.tag;
    leads = sym (cells_lead group count d now files files_now indexes below alone s of.number of.tag) ∙ of.leads;
  }

  pub led_rest : SaysTheRest it files_now
  led_rest = record {
    kinds = λ at cell on. rest.kinds at cell on.stands on.table;
    firsts = λ at cell on primary. rest.firsts at cell on.stands on.table primary;
    births = λ at cell value of stands has. rest.births at cell (of_original_was at of) stands (tagged_on of.number of.tag at of.leads) value has;
    holes = λ at chain is stays. rest.holes at chain is (in_stays chain stays);
  }

  pub rest_goes : SaysTheRest now files_now
  rest_goes = subst (λ (x : DomainNow). SaysTheRest x files_now) (led_is group count d now files files_now indexes below alone s) led_rest
