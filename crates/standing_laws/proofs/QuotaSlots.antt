-- What a domain's slots, pages and files are once an owner's limits are set in a slot's fileset.
use Rattle.std.proofs.Common.{◌≡◌, ◌∙◌, ◌⊎◌, ◌==◌, ℕ, zero, suc, true, List, [], ◌∷◌, length, Option, Some, None, IfSome, Contains, inl, inr, slice_get, refl, sym, ap, subst, arith, eqb-true, ⊎_elim}
use Rattle.std.proofs.lemmas.Bool.{both_ways, cases_Bool, eq-eqb}
use Rattle.std.specs.Option.{option_and_then}
use Rattle.std.specs.Prelude.{slice_set}
use Rattle.domain_standing.specs.domain_base.declared.place.CellAt.{CellAt}
use Rattle.domain_standing.specs.domain_base.declared.place.Home.{Home}
use Rattle.domain_standing.specs.domain_base.declared.place.Tag.{Tag}
use Rattle.domain_standing.specs.log_ring.Homes.{IsMember}
use Rattle.domain_standing.specs.metadata_cells.Chain.{PlacedCell}
use Rattle.domain_standing.specs.tag_dirs.declared.dir.TagPlace.{TagPlace}
use Rattle.domain_standing.specs.tag_dirs.Directory.{cell_of, has_home}
use Rattle.domain_standing.specs.free_cells.Cells.{Cells, table_of}
use Rattle.domain_standing.proofs.OfFilesetFiles.Tags.{cell_same, pages_same}
use Rattle.domain_standing.specs.fileset_table.Table.{Table}
use Rattle.domain_standing.specs.fileset_table.declared.slot.SlotItem.{SlotItem}
use Rattle.domain_standing.specs.fileset_table.declared.slot.SlotItem.TheVariants as slot
use Rattle.domain_standing.specs.quota_book.QuotaCells.{touched}
use Rattle.domain_standing.specs.release_list.Standing.{Files, IsQuotas}
use Rattle.domain_standing.specs.release_list.Steps.{IsWell}
use Rattle.domain_standing.proofs.OfReleaseList.Spread.{some_same}
use Rattle.domain_standing.proofs.OfReleaseList.Standings.{file_other, file_there}
use Rattle.domain_standing.specs.release_steps.QuotaChain.{IsQuotaChain, TakesIfUntouched, said_in}
use Rattle.domain_standing.specs.release_steps.Setting.{IsChainIn}
use Rattle.domain_standing.proofs.OfReleaseSteps.AllWell.{all_well, none_there}
use Rattle.domain_standing.proofs.OfDomainLayout.Reached.{member_or_none}
use Rattle.domain_standing.specs.domain_layout.Layout.{AreTagPlaces, first_tag_of}
use Rattle.domain_standing.specs.Chains.{IndexesAt, StandsInSlot}
use Rattle.domain_standing.specs.Domain.{DomainNow, all_of, item_in, named_by}
use Rattle.domain_standing.specs.Holders.{Holder, Holds}
use Rattle.domain_standing.specs.Holders.Holder.{of_cells, of_table, of_tags}
use Rattle.standing_laws.specs.Leads.{StandsBelow}
use Rattle.standing_laws.specs.SetsQuota.{SetsQuota}
use Rattle.standing_laws.proofs.HeldSpaces.{one_new}
use Rattle.standing_laws.proofs.TablesTaken.{low_table, unheld_taken}

-- ---- a list with another item at a place

slot_there : {X : Type 0} (xs : List X) (k : ℕ) (x y : X) → slice_get xs k ≡ Some y → slice_get (slice_set xs k x) k ≡ Some x
slot_there [] k x y is = let e : None ≡ Some y = is in absurd (cc)
slot_there (z ∷ xs) zero x y is = refl
slot_there (z ∷ xs) (suc k) x y is = slot_there xs k x y is

slot_other : {X : Type 0} (xs : List X) (k n : ℕ) (x : X) → ¬ n ≡ k → slice_get (slice_set xs k x) n ≡ slice_get xs n
slot_other [] k n x differ = refl
slot_other (z ∷ xs) zero zero x differ = absurd (differ refl)
slot_other (z ∷ xs) zero (suc n) x differ = refl
slot_other (z ∷ xs) (suc k) zero x differ = refl
slot_other (z ∷ xs) (suc k) (suc n) x differ = slot_other xs k n x (λ same. differ (ap suc same))

module _ (number : ℕ) (d now : DomainNow) (files files_now : Files) (indexes : IndexesAt) (below : StandsBelow d files indexes) (s : SetsQuota number d now files files_now) where
  abbrev pub start : CellAt
  start = s.sets.start

  abbrev pub after : List PlacedCell
  after = s.sets.sets.after

  abbrev pub chain : List PlacedCell
  chain = s.sets.chain

  -- ---- files

  pub there : files_now start ≡ Some after
  there = ap (λ (f : Files). f start) s.sets.files ∙ file_there start (Some after) files

  pub other : (at : CellAt) → ¬ at ≡ start → files_now at ≡ files at
  other at apart = ap (λ (f : Files). f at) s.sets.files ∙ file_other start (Some after) files at apart

  pub well_now : IsWell (all_of now files_now)
  well_now = all_well number s.prefer s.who s.limits s.entry.quota (all_of d files) (all_of now files_now) below.chains.well s.sets

  -- what began there was the slot's chain
  pub was_chain : (cs : List PlacedCell) → files start ≡ Some cs → (at : CellAt) × (s.entry.quota ≡ Some at) × (start ≡ at) × (cs ≡ chain) × IsQuotas d.pages at chain
  was_chain cs is = by_first s.entry.quota refl s.sets.among s.sets.begins s.sets.is
    where
      by_first : (o : Option CellAt) → s.entry.quota ≡ o → IsChainIn files o chain → IfSome o (λ at. start ≡ at) → IsQuotaChain d.pages o chain
          → (at : CellAt) × (s.entry.quota ≡ Some at) × (start ≡ at) × (cs ≡ chain) × IsQuotas d.pages at chain
      by_first None named none begins quotas = absurd (none_there number s.prefer s.who s.limits s.entry.quota (all_of d files) (all_of now files_now) below.chains.well s.sets none cs is)
      by_first (Some at) named among begins quotas = (at, named, begins, some_same cs chain (sym is ∙ ap files begins ∙ among), quotas)

  pub was_quotas : (cs : List PlacedCell) → files start ≡ Some cs → IsQuotas d.pages start cs
  was_quotas cs is =
      let w = was_chain cs is in
      subst (λ (a : CellAt). IsQuotas d.pages a cs) (sym w.2) (subst (IsQuotas d.pages w.0) (sym w.3) w.4)

  -- ---- slots

  pub number_or_not : (n : ℕ) → (n ≡ number) ⊎ (¬ n ≡ number)
  number_or_not n = ⊎_elim
      (λ same. inl (eqb-true n number same))
      (λ apart. inr (λ same. both_ways (n == number) apart (eq-eqb n number same)))
      (cases_Bool (n == number))

  pub item_other : (n : ℕ) → ¬ n ≡ number → item_in now n ≡ item_in d n
  item_other n differ = ap (λ (t : Table). slice_get t.slots n) s.table ∙ slot_other d.table.slots number n (slot.Original (record s.entry { quota = Some start })) differ

  pub item_mine : item_in now number ≡ Some (slot.Original (record s.entry { quota = Some start }))
  item_mine = ap (λ (t : Table). slice_get t.slots number) s.table ∙ slot_there d.table.slots number (slot.Original (record s.entry { quota = Some start })) (slot.Original s.entry) s.original

  pub first_tags : (n : ℕ) → named_by first_tag_of now n ≡ named_by first_tag_of d n
  first_tags n = ⊎_elim
      (λ same. ap (named_by first_tag_of now) same ∙ ap (option_and_then first_tag_of) item_mine ∙ sym (ap (named_by first_tag_of d) same ∙ ap (option_and_then first_tag_of) s.original))
      (λ differ. ap (option_and_then first_tag_of) (item_other n differ))
      (number_or_not n)

  -- ---- pages

  pub member_of_table : (vol p : ℕ) → Contains (table_of d.cells vol) p → IsMember d.frame.anchor vol
  member_of_table vol p on = ⊎_elim
      (λ member. member)
      (λ none. let e : length (table_of d.cells vol) ≡ 0 = ap length (below.tables.cells.others vol none) in absurd (omega (arith, e, on.1)))
      (member_or_none d.frame.anchor vol)

  -- what is held for something else comes to be no page of cells
  pub off_tables : (holder : Holder) (home : Home) → Holds d files indexes holder home → ¬ holder ≡ of_cells → ¬ Contains (table_of now.cells home.vol) home.page
  off_tables holder home held no_cells on = by_touched (touched (said_in chain) s.who) s.sets.taken
    where
      on_cells : Contains (table_of d.cells home.vol) home.page → ⊥
      on_cells was = no_cells (below.owned.once home holder of_cells held (member_of_table home.vol home.page was, was))

      by_touched : (o : Option ℕ) → TakesIfUntouched o s.prefer d.space now.space d.cells now.cells d.pages → ⊥
      by_touched (Some k) same = on_cells (subst (λ (c : Cells). Contains (table_of c home.vol) home.page) same.1 on)
      by_touched None one = ⊎_elim on_cells
          (λ can. unheld_taken d files indexes below.owned home (low_table now.cells home.vol home.page on) can holder held)
          (one_new s.prefer d.space now.space d.cells now.cells d.pages one home.vol home.page on)

  pub page_stays : (holder : Holder) (home : Home) → Holds d files indexes holder home → ¬ holder ≡ of_cells → ¬ holder ≡ of_table → now.pages home ≡ d.pages home
  page_stays holder home held no_cells no_table =
      s.elsewhere home (off_tables holder home held no_cells) (λ is. no_table (below.owned.once home holder of_table held is))

  pub tag_page : (n : ℕ) (home : Home) → has_home (d.tags n) home ≡ true → now.pages home ≡ d.pages home
  tag_page n home has = page_stays (of_tags n) home has (λ e. cc) (λ e. cc)

  pub cell_stays : (n : ℕ) (t : Tag) → cell_of now.pages (d.tags n) t ≡ cell_of d.pages (d.tags n) t
  cell_stays n t = by_item (item_in d n) refl
    where
      nothing : d.tags n ≡ [] → cell_of now.pages (d.tags n) t ≡ cell_of d.pages (d.tags n) t
      nothing none = ap (λ (ps : List TagPlace). cell_of now.pages ps t) none ∙ sym (ap (λ (ps : List TagPlace). cell_of d.pages ps t) none)

      by_first : (o : Option Home) → AreTagPlaces d.pages o (d.tags n) → cell_of now.pages (d.tags n) t ≡ cell_of d.pages (d.tags n) t
      by_first None none = nothing none
      by_first (Some first) are = cell_same d.pages now.pages (d.tags n) are.directory (pages_same d.pages now.pages (d.tags n) (tag_page n)) t

      by_item : (o : Option SlotItem) → item_in d n ≡ o → cell_of now.pages (d.tags n) t ≡ cell_of d.pages (d.tags n) t
      by_item None at = nothing (subst (λ o. StandsInSlot d files n (option_and_then first_tag_of o)) at (below.chains.slots n))
      by_item (Some item) at = by_first (first_tag_of item) (below.tables.laid.tags n item at)
