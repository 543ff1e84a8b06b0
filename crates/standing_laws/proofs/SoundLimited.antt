-- A domain is as rules ask beside where an owner's limits are set.
use Rattle.std.proofs.Common.{◌≡◌, ◌∙◌, ◌⊎◌, inl, inr, ℕ, ◌≤◌, true, List, Option, Some, None, IsSomeAnd, Contains, refl, sym, ap, subst, ⊎_elim}
use Rattle.std.specs.Option.{option_map_or}
use Rattle.domain_standing.specs.domain_base.declared.place.CellAt.{CellAt}
use Rattle.domain_standing.specs.domain_base.declared.place.Home.{Home}
use Rattle.domain_standing.specs.log_ring.Homes.{IsMember}
use Rattle.domain_standing.specs.metadata_cells.Cell.{Cell}
use Rattle.domain_standing.specs.metadata_cells.Chain.{PlacedCell}
use Rattle.domain_standing.specs.metadata_cells.declared.head.CellKind.TheVariants.{Chain, Quota}
use Rattle.domain_standing.specs.tag_dirs.Directory.{has_home}
use Rattle.domain_standing.specs.tag_dirs.declared.dir.TagPlace.{TagPlace}
use Rattle.domain_standing.specs.extent_maps.declared.run.PagePlace.TheVariants.{Absent}
use Rattle.domain_standing.specs.directory_pages.Index.{IsIndexPage}
use Rattle.domain_standing.specs.free_cells.Cells.{Cells, table_of}
use Rattle.domain_standing.specs.file_chains.Files.{places_of}
use Rattle.domain_standing.specs.quota_book.QuotaCells.{touched}
use Rattle.domain_standing.specs.release_steps.QuotaChain.{TakesIfUntouched, said_in}
use Rattle.domain_standing.specs.release_list.Standing.{Files, place_in}
use Rattle.domain_standing.proofs.OfReleaseList.Standings.{place_by, quota_place, same_or_not}
use Rattle.domain_standing.specs.domain_layout.CellRules.{is_chain_records}
use Rattle.domain_standing.specs.domain_layout.Owners.{IsOnTable}
use Rattle.domain_standing.specs.domain_layout.Reached.{Frame, IsWithin}
use Rattle.domain_standing.specs.Chains.{IndexesAt}
use Rattle.domain_standing.specs.Domain.{DomainNow, layout_of}
use Rattle.domain_standing.specs.Holders.{Holder, Holds}
use Rattle.domain_standing.specs.Holders.Holder.{of_cells, of_file, of_index, of_log, of_table, of_tags, of_volume}
use Rattle.standing_laws.specs.Leads.{StandsBelow}
use Rattle.standing_laws.specs.SetsQuota.{SetsQuota}
use Rattle.standing_laws.proofs.CellsNow.{cell_was}
use Rattle.standing_laws.proofs.HeldHolders.{MayTake}
use Rattle.standing_laws.proofs.HeldSpaces.{one_new}
use Rattle.standing_laws.proofs.QuotaCells.{after, are_used, goes, is, quota_in, was}
use Rattle.standing_laws.proofs.QuotaSlots.{other, page_stays, there, was_quotas}
use Rattle.standing_laws.specs.Sound.{StandsSound}
use Rattle.standing_laws.proofs.SoundKept.{can_within}
use Rattle.standing_laws.proofs.HomeLists.{in_get}

module _ (number : ℕ) (d now : DomainNow) (files files_now : Files) (indexes : IndexesAt) (below : StandsBelow d files indexes) (sound : StandsSound d files indexes) (s : SetsQuota number d now files files_now) where
  in_now : (home : Home) → IsWithin d.frame home → IsWithin now.frame home
  in_now home within = subst (λ (f : Frame). IsWithin f home) (sym s.frame) within

  member_was : (vol : ℕ) → IsMember now.frame.anchor vol → IsMember d.frame.anchor vol
  member_was vol member = subst (λ (f : Frame). IsMember f.anchor vol) s.frame member

  -- no page of a file stands elsewhere: quota cells have none
  place_same : (at : CellAt) (p : ℕ) → place_in files_now at p ≡ place_in files at p
  place_same at p = ⊎_elim
      (λ same.
      ap (λ (a : CellAt). place_in files_now a p) same
      ∙ place_by files_now s.sets.start s.sets.sets.after p (there number d now files files_now indexes below s) ∙ quota_place now.pages s.sets.start s.sets.sets.after s.sets.sets.is p
      ∙ sym (ap (λ (a : CellAt). place_in files a p) same ∙ was_absent (files s.sets.start) refl))
      (λ apart. ap (λ (o : Option (List PlacedCell)). option_map_or (λ cs. places_of cs p) o Absent) (other number d now files files_now indexes below s at apart))
      (same_or_not at s.sets.start)
    where
      was_absent : (o : Option (List PlacedCell)) → files s.sets.start ≡ o → place_in files s.sets.start p ≡ Absent
      was_absent None none = ap (λ (o : Option (List PlacedCell)). option_map_or (λ cs. places_of cs p) o Absent) none
      was_absent (Some cs) some = place_by files s.sets.start cs p some ∙ quota_place d.pages s.sets.start cs (was_quotas number d now files files_now indexes below s cs some) p

  table_back : (o : Option ℕ) → TakesIfUntouched o s.prefer d.space now.space d.cells now.cells d.pages → (vol p : ℕ) → 1 ≤ vol → Contains (table_of now.cells vol) p
      → Contains (table_of d.cells vol) p ⊎ MayTake d.space (record { vol = vol; page = p })
  table_back (Some k) same vol p low on = inl (subst (λ (c : Cells). Contains (table_of c vol) p) same.1 on)
  table_back None one vol p low on = ⊎_elim (λ was. inl was) (λ can. inr (low, can)) (one_new s.prefer d.space now.space d.cells now.cells d.pages one vol p on)

  within : (home : Home) (holder : Holder) → ¬ holder ≡ of_volume → ¬ holder ≡ of_log → Holds now files_now indexes holder home → IsWithin now.frame home
  within home of_volume no_volume no_log held = absurd (no_volume refl)
  within home of_log no_volume no_log held = absurd (no_log refl)
  within home of_table no_volume no_log held = in_now home (sound.within home of_table no_volume no_log (subst (λ (f : Frame). f.anchor.table ≡ Some home) s.frame held))
  within home of_cells no_volume no_log held = ⊎_elim
      (λ on. in_now home (sound.within home of_cells no_volume no_log (member_was home.vol held.0, on)))
      (λ can. in_now home (can_within d files indexes below.owned home can))
      (table_back (touched (said_in s.sets.chain) s.who) s.sets.taken home.vol home.page held.0.first held.1)
  within home (of_tags n) no_volume no_log held = in_now home (sound.within home (of_tags n) no_volume no_log (ap (λ (t : ℕ → List TagPlace). has_home (t n) home) (sym s.tags) ∙ held))
  within home (of_index at k) no_volume no_log held = in_now home (sound.within home (of_index at k) no_volume no_log held)
  within home (of_file at page) no_volume no_log held = in_now home (sound.within home (of_file at page) no_volume no_log (sym (place_same at page) ∙ held))

  laters : (at : CellAt) (cell : Cell) → IsOnTable now.pages (layout_of now) at cell → cell.head.kind ≡ Chain → is_chain_records cell.records ≡ true
  laters at cell on chain = ⊎_elim
      (λ stood. sound.laters at cell (record { member = member_was at.vol on.member; table = stood.1; stands = stood.0 }) chain)
      (λ inside.
      let e : Quota ≡ Chain = sym (quota_in number d now files files_now indexes below s (record { at = at; cell = cell }) inside).kind ∙ chain in absurd (cc))
      (cell_was (was number d now files files_now indexes below s) (is number d now files files_now indexes below s) (after number d now files files_now indexes below s)
      (are_used number d now files files_now indexes below s) (goes number d now files files_now indexes below s) s.sets.allocated.belong at cell on.stands on.table)

  good : (at : CellAt) (home : Home) → Contains (indexes at) home → IsSomeAnd (now.pages home) IsIndexPage
  good at home among =
      let k = in_get (indexes at) home among in
      subst (λ o. IsSomeAnd o IsIndexPage) (sym (page_stays number d now files files_now indexes below s (of_index at k.0) home k.1 (λ e. cc) (λ e. cc))) (sound.good at home among)

  pub sound_limited : StandsSound now files_now indexes
  sound_limited = record { within = within; laters = laters; good = good }
