-- What is asked of single cells once an owner's limits are set in a slot's fileset.
use Rattle.std.proofs.Common.{◌≡◌, ◌∙◌, ◌⊎◌, ◌≤◌, ◌||◌, ◌&&◌, inl, inr, ℕ, Bool, true, false, not, List, [], ◌∷◌, Option, Some, None, IfSome, IsSomeAnd, is_some, Contains, slice_get, refl, sym, ap, subst, arith, ⊎_elim}
use Rattle.std.specs.List.{AllByRecursion}
use Rattle.std.specs.Option.{option_and_then, option_map_or}
use Rattle.domain_standing.specs.domain_base.declared.place.CellAt.{CellAt}
use Rattle.domain_standing.specs.domain_base.declared.place.Home.{Home}
use Rattle.domain_standing.specs.domain_base.declared.place.Tag.{Tag}
use Rattle.domain_standing.specs.domain_base.declared.version.Version.{Version}
use Rattle.domain_standing.specs.domain_base.declared.version.Version.TheVariants.{Four, Three}
use Rattle.domain_standing.specs.cell_records.declared.record.Record.{Record}
use Rattle.domain_standing.specs.cell_records.Records.{kind_of, last_kind}
use Rattle.domain_standing.specs.metadata_cells.Cell.{Cell, record_of}
use Rattle.domain_standing.specs.metadata_cells.Chain.{PlacedCell, StandsAt}
use Rattle.domain_standing.specs.metadata_cells.declared.head.CellHead.{CellHead}
use Rattle.domain_standing.specs.metadata_cells.declared.head.CellKind.TheVariants.{Primary, Quota}
use Rattle.domain_standing.specs.tag_dirs.declared.dir.TagPlace.{TagPlace}
use Rattle.domain_standing.specs.tag_dirs.Directory.{cell_of}
use Rattle.domain_standing.specs.free_cells.Cells.{table_of}
use Rattle.domain_standing.specs.file_chains.Files.{IsFile}
use Rattle.domain_standing.specs.fileset_files.Files.{LeadsToFile}
use Rattle.domain_standing.proofs.OfFileRelease.Outcome.{on_at}
use Rattle.domain_standing.specs.fileset_table.Table.{Table}
use Rattle.domain_standing.specs.fileset_table.declared.slot.SlotItem.{SlotItem}
use Rattle.domain_standing.specs.fileset_table.declared.slot.SlotItem.TheVariants as slot
use Rattle.domain_standing.specs.quota_book.QuotaCells.{touched}
use Rattle.domain_standing.specs.release_list.Standing.{Files, IsQuotaCell}
use Rattle.domain_standing.proofs.OfReleaseList.Spread.{none_not, some_same}
use Rattle.domain_standing.proofs.OfReleaseList.Standings.{chain_inside, no_record, same_or_not, standing}
use Rattle.domain_standing.proofs.OfReleaseSteps.Tags.{file_start, named}
use Rattle.domain_standing.specs.release_steps.QuotaChain.{said_in}
use Rattle.domain_standing.proofs.OfReleaseSteps.Chains.{all_quotas}
use Rattle.domain_standing.proofs.OfReleaseSteps.AllWell.{tables_grow}
use Rattle.domain_standing.specs.domain_layout.CellRules.{has_first_records, has_its_kinds, has_kind, is_good_first, item_of, keeps_well, of_clone, of_original, say_removed}
use Rattle.domain_standing.specs.domain_layout.Layout.{first_tag_of}
use Rattle.domain_standing.specs.domain_layout.Owners.{IsOnTable}
use Rattle.domain_standing.specs.domain_layout.Reached.{Frame}
use Rattle.domain_standing.specs.domain_layout.TagRules.{IsLate}
use Rattle.domain_standing.specs.Chains.{HasFilesAmong, IndexesAt, IsRemoved, StandsInSlot}
use Rattle.domain_standing.specs.Domain.{DomainNow, all_of, item_in, layout_of}
use Rattle.domain_standing.specs.Rest.{HasNoHoles, IsOfOriginal, SaysTheRest, StaysInOriginal}
use Rattle.standing_laws.specs.Leads.{StandsBelow}
use Rattle.standing_laws.specs.SetsQuota.{SetsQuota}
use Rattle.standing_laws.proofs.CellsNow.{cell_was}
use Rattle.standing_laws.proofs.QuotaCells.{after, are_used, goes, is, quota_in, was}
use Rattle.standing_laws.proofs.QuotaSlots.{cell_stays, item_mine, item_other, member_of_table, number_or_not, other, there}

-- ---- quota cells

known : (version : Version) (rs : List Record) → AllByRecursion (λ r. (kind_of r ≡ 7) ⊎ (kind_of r ≡ 8)) rs → AllByRecursion (λ r. kind_of r ≤ last_kind version) rs
known version [] all = tt
known version (r ∷ rs) all = (below version, known version rs all.1)
  where
    below : (v : Version) → kind_of r ≤ last_kind v
    below Three = ⊎_elim (λ e. omega (arith, e)) (λ e. omega (arith, e)) all.0
    below Four = ⊎_elim (λ e. omega (arith, e)) (λ e. omega (arith, e)) all.0

no_holes : (cs : List PlacedCell) → AllByRecursion (λ (c : PlacedCell). IsQuotaCell c.cell) cs → AllByRecursion HasNoHoles cs
no_holes [] all = tt
no_holes (c ∷ cs) all = (ap is_some (no_record 5 (λ e. omega (arith, e)) (λ e. omega (arith, e)) c.cell.records all.0.limits), no_holes cs all.1)

-- a first cell, by whether its slot has an original and whether a clone
abbrev good_by : Cell → Bool → Bool → Bool
good_by cell original clone = has_first_records cell.records
    && (say_removed cell.records
    || ((not original || (has_its_kinds false cell.records && option_map_or (λ r. keeps_well r (has_kind 6 cell.records)) (record_of 1 cell.records) false))
    && (not clone || has_its_kinds true cell.records)))

module _ (number : ℕ) (d now : DomainNow) (files files_now : Files) (indexes : IndexesAt) (below : StandsBelow d files indexes) (s : SetsQuota number d now files files_now) where
  -- ---- what slots have

  same_by : (test : Option SlotItem → Bool) → test (Some (slot.Original (record s.entry { quota = Some s.sets.start }))) ≡ test (Some (slot.Original s.entry)) → (n : ℕ) → test (item_in now n) ≡ test (item_in d n)
  same_by test both n = ⊎_elim
      (λ same.
      ap (λ (m : ℕ). test (item_in now m)) same ∙ ap test (item_mine number d now files files_now indexes below s) ∙ both
      ∙ sym (ap (λ (m : ℕ). test (item_in d m)) same ∙ ap test s.original))
      (λ differ. ap test (item_other number d now files files_now indexes below s n differ))
      (number_or_not number d now files files_now indexes below s n)

  original_same : (n : ℕ) → of_original (item_in now n) ≡ of_original (item_in d n)
  original_same = same_by of_original refl

  original_of : (head : CellHead) → of_original (item_of now.table head) ≡ of_original (item_of d.table head)
  original_of head = by_fileset head.fileset
    where
      by_fileset : (o : Option ℕ) → of_original (option_and_then (slice_get now.table.slots) o) ≡ of_original (option_and_then (slice_get d.table.slots) o)
      by_fileset None = refl
      by_fileset (Some n) = original_same n

  clone_of : (head : CellHead) → of_clone (item_of now.table head) ≡ of_clone (item_of d.table head)
  clone_of head = by_fileset head.fileset
    where
      by_fileset : (o : Option ℕ) → of_clone (option_and_then (slice_get now.table.slots) o) ≡ of_clone (option_and_then (slice_get d.table.slots) o)
      by_fileset None = refl
      by_fileset (Some n) = same_by of_clone refl n

  good_same : (cell : Cell) → is_good_first now.table cell ≡ is_good_first d.table cell
  good_same cell =
      ap (λ (o : Bool). good_by cell o (of_clone (item_of now.table cell.head))) (original_of cell.head)
      ∙ ap (good_by cell (of_original (item_of d.table cell.head))) (clone_of cell.head)

  -- ---- cells that are in use

  stood_or_quota : (at : CellAt) (cell : Cell) → StandsAt now.pages at cell → Contains (table_of now.cells at.vol) at.page → IsOnTable d.pages (layout_of d) at cell ⊎ IsQuotaCell cell
  stood_or_quota at cell stands on = ⊎_elim
      (λ stood. inl (record { member = member_of_table number d now files files_now indexes below s at.vol at.page stood.1; table = stood.1; stands = stood.0 }))
      (λ inside. inr (quota_in number d now files files_now indexes below s (record { at = at; cell = cell }) inside))
      (cell_was (was number d now files files_now indexes below s) (is number d now files files_now indexes below s) (after number d now files files_now indexes below s)
      (are_used number d now files files_now indexes below s) (goes number d now files files_now indexes below s) s.sets.allocated.belong at cell stands on)

  kinds : (at : CellAt) (cell : Cell) → IsOnTable now.pages (layout_of now) at cell → AllByRecursion (λ r. kind_of r ≤ last_kind now.frame.version) cell.records
  kinds at cell on = subst (λ (f : Frame). AllByRecursion (λ r. kind_of r ≤ last_kind f.version) cell.records) (sym s.frame) (⊎_elim
      (λ stood. below.rest.kinds at cell stood)
      (λ quota. known d.frame.version cell.records quota.limits)
      (stood_or_quota at cell on.stands on.table))

  firsts : (at : CellAt) (cell : Cell) → IsOnTable now.pages (layout_of now) at cell → cell.head.kind ≡ Primary → is_good_first now.table cell ≡ true
  firsts at cell on primary = ⊎_elim
      (λ stood. good_same cell ∙ below.rest.firsts at cell stood primary)
      (λ quota. let e : Quota ≡ Primary = sym quota.kind ∙ primary in absurd (cc))
      (stood_or_quota at cell on.stands on.table)

  -- ---- files of originals

  -- the first cell of one stands on a table
  on_table : (n : ℕ) → of_original (item_in d n) ≡ true → (at : CellAt) (tag : Tag) → cell_of d.pages (d.tags n) tag ≡ Some at → Contains (table_of d.cells at.vol) at.page
  on_table n original at tag leads = by_item (item_in d n) refl original
    where
      in_files : (has : HasFilesAmong d files n) (o : Option (List PlacedCell)) → has.chains tag ≡ o → Contains (table_of d.cells at.vol) at.page
      in_files has None none = absurd (none_not at (sym (has.are.none tag none) ∙ leads))
      in_files has (Some cs) some =
          let m = named files has.chains tag cs some (has.among.same tag) in
          let led = subst (λ o. IfSome o (LeadsToFile n (d.tags n) d.pages tag)) some (has.are.some tag) in
          let file : IsFile d.pages at cs = subst (λ o. IsSomeAnd o (λ a. IsFile d.pages a cs)) leads led.leads in
          let same : at ≡ m.at = file_start d.pages at m.at cs file m.start in
          let stood = standing d.space d.cells d.pages files below.chains.well.together m.at cs m.is in
          subst (λ (a : CellAt). Contains (table_of d.cells a.vol) a.page) (sym same) (on_at d.cells cs m.at stood.on_tables (chain_inside d.pages m.at cs stood.stands))

      not_removed : (o : Option SlotItem) → of_original o ≡ true → IsRemoved o → ⊥
      not_removed None is removed = removed
      not_removed (Some slot.Free) is removed = removed
      not_removed (Some (slot.Original entry)) is removed = removed
      not_removed (Some (slot.Clone of clone entry)) is removed = removed
      not_removed (Some (slot.Removed first_tag quota)) is removed = let e : false ≡ true = is in absurd (cc)

      by_slot : (first : Home) → StandsInSlot d files n (Some first) → Contains (table_of d.cells at.vol) at.page
      by_slot first stood = ⊎_elim
          (λ has. in_files has (has.chains tag) refl)
          (λ empty. absurd (not_removed (item_in d n) original empty.removed))
          stood

      by_item : (o : Option SlotItem) → item_in d n ≡ o → of_original o ≡ true → Contains (table_of d.cells at.vol) at.page
      by_item None there is = let e : false ≡ true = is in absurd (cc)
      by_item (Some slot.Free) there is = let e : false ≡ true = is in absurd (cc)
      by_item (Some (slot.Original entry)) there is = by_slot entry.first_tag (subst (λ o. StandsInSlot d files n (option_and_then first_tag_of o)) there (below.chains.slots n))
      by_item (Some (slot.Clone of clone entry)) there is = let e : false ≡ true = is in absurd (cc)
      by_item (Some (slot.Removed first_tag quota)) there is = let e : false ≡ true = is in absurd (cc)

  births : (at : CellAt) (cell : Cell) (value : Record) → IsOfOriginal now at → StandsAt now.pages at cell → record_of 1 cell.records ≡ Some value → ¬ IsLate now.table.made value
  births at cell value of stands has =
      let original = sym (original_same of.number) ∙ of.original in
      let leads = sym (cell_stays number d now files files_now indexes below s of.number of.tag) ∙ ap (λ (t : ℕ → List TagPlace). cell_of now.pages (t of.number) of.tag) (sym s.tags) ∙ of.leads in
      let on = on_table of.number original at of.tag leads in
      let on_now = tables_grow number s.prefer s.who s.limits s.entry.quota (all_of d files) (all_of now files_now) s.sets (touched (said_in s.sets.chain) s.who) s.sets.taken at.vol at.page on in
      subst (λ (t : Table). ¬ IsLate t.made value) (sym s.table) (⊎_elim
      (λ stood. below.rest.births at cell value (record { number = of.number; original = original; tag = of.tag; leads = leads }) stood.stands has)
      (λ quota. absurd (none_not value (sym (no_record 1 (λ e. omega (arith, e)) (λ e. omega (arith, e)) cell.records quota.limits) ∙ has)))
      (stood_or_quota at cell stands on_now))

  stays_was : (cs : List PlacedCell) → StaysInOriginal now cs → StaysInOriginal d cs
  stays_was [] stays = stays
  stays_was (first ∷ rest) stays = (sym (original_of first.cell.head) ∙ stays.0, stays.1)

  holes : (at : CellAt) (cs : List PlacedCell) → files_now at ≡ Some cs → StaysInOriginal now cs → AllByRecursion HasNoHoles cs
  holes at cs here stays = ⊎_elim
      (λ same.
      let after_is : s.sets.sets.after ≡ cs = some_same s.sets.sets.after cs (sym (there number d now files files_now indexes below s) ∙ ap files_now (sym same) ∙ here) in
      subst (AllByRecursion HasNoHoles) after_is (no_holes s.sets.sets.after (all_quotas now.pages s.sets.start s.sets.sets.after s.sets.sets.is)))
      (λ apart. below.rest.holes at cs (sym (other number d now files files_now indexes below s at apart) ∙ here) (stays_was cs stays))
      (same_or_not at s.sets.start)

  pub rest_stands : SaysTheRest now files_now
  rest_stands = record { kinds = kinds; firsts = firsts; births = births; holes = holes }
