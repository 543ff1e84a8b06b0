-- The chains of a domain stand on over steps.
use Rattle.std.proofs.Common.{◌≡◌, ◌∙◌, ◌⊎◌, inl, inr, ℕ, List, [], ◌∷◌, Option, Some, None, IsSome, Contains, is_some, refl, sym, ap, subst, arith, ⊎_elim, true≢false}
use Rattle.std.specs.Option.{option_and_then}
use Rattle.standing_laws.specs.domain_base.declared.place.CellAt.{CellAt}
use Rattle.standing_laws.specs.domain_base.declared.place.Home.{Home}
use Rattle.standing_laws.specs.page_store.Pages.{Pages}
use Rattle.standing_laws.specs.cell_records.declared.record.Leftover.TheVariants.{Remove, Trim}
use Rattle.standing_laws.specs.metadata_cells.Chain.{PlacedCell}
use Rattle.standing_laws.specs.fileset_files.Shown.{index_in, index_of}
use Rattle.standing_laws.specs.index_pages.Homes.{AreIndexHomes}
use Rattle.standing_laws.proofs.OfIndexPages.Homes.{kept_same}
use Rattle.standing_laws.specs.release_list.Listed.{left_of}
use Rattle.standing_laws.specs.release_list.Standing.{Files}
use Rattle.standing_laws.specs.release_list.Steps.{IsWell}
use Rattle.standing_laws.proofs.OfReleaseSteps.SaysStill.{said_so}
use Rattle.standing_laws.specs.domain_layout.CellRules.{IsFirstPlace}
use Rattle.standing_laws.specs.domain_layout.Owners.{IsOnTable}
use Rattle.standing_laws.specs.metadata_cells.Cell.{Cell}
use Rattle.standing_laws.specs.domain_standing.Chains.{HasEmptyTags, IndexesAt, IsInChain, IsOnList, IsQuotaToGo, IsSomebodys, IsToDo, StandChains}
use Rattle.standing_laws.specs.domain_standing.Domain.{DomainNow, all_of, layout_of}
use Rattle.standing_laws.specs.domain_standing.Holders.Holder.{of_index}
use Rattle.standing_laws.specs.domain_standing.Sources.{StandAlone}
use Rattle.standing_laws.specs.Leads.{StandsBelow}
use Rattle.standing_laws.proofs.HomeLists.{in_get}
use Rattle.release_laws.specs.Released.{QuotasStay, Releases}
use Rattle.release_laws.proofs.Led.{go, handed_now, led, led_is, well_now, well_was}
use Rattle.release_laws.proofs.ListGo.{entry_was, left_was, not_done, to_do_on}
use Rattle.release_laws.proofs.SlotsGo.{cells_lead, empty_now, quotas_now, slots_now}
use Rattle.release_laws.proofs.TablesGo.{page_stays}

-- no index has no pages
no_pages : (old new : Pages) (homes : List Home) → AreIndexHomes old None homes → AreIndexHomes new None homes
no_pages old new [] are = tt
no_pages old new (home ∷ more) are = absurd are

module _ (group count : ℕ) (d now : DomainNow) (files files_now : Files) (indexes : IndexesAt) (below : StandsBelow d files indexes) (alone : StandAlone d) (s : Releases group count d now files files_now) where
  abbrev it : DomainNow
  it = led group count d now files files_now indexes below alone s

  was : IsWell (all_of d files)
  was = well_was d files indexes below

  well : IsWell (all_of it files_now)
  well = well_now group count d now files files_now indexes below alone s

  -- ---- indexes

  pub index_page : (at : CellAt) (home : Home) → Contains (indexes at) home → now.pages home ≡ d.pages home
  index_page at home inside = let k = in_get (indexes at) home inside in page_stays group count d now files files_now indexes below alone s home (of_index at k.0) k.1 (λ e. cc)

  pub indexed_now : (at : CellAt) → AreIndexHomes now.pages (option_and_then index_of (files_now at)) (indexes at)
  indexed_now at = by_file (files_now at) refl
    where
      by_file : (o : Option (List PlacedCell)) → files_now at ≡ o → AreIndexHomes now.pages (option_and_then index_of o) (indexes at)
      by_file None gone = no_pages d.pages now.pages (indexes at) (by_chain (files at) refl (below.chains.indexed at))
        where
          by_chain : (o : Option (List PlacedCell)) → files at ≡ o → AreIndexHomes d.pages (option_and_then index_of o) (indexes at) → AreIndexHomes d.pages None (indexes at)
          by_chain None is are = are
          by_chain (Some chain) is are = subst (λ o. AreIndexHomes d.pages o (indexes at)) (s.gone at chain is gone) are
      by_file (Some after) there =
          let said = said_so group d.frame.version (all_of d files) count (all_of it files_now) was s.steps at after there in
          let same : index_of after ≡ option_and_then index_of (files at) = ap (option_and_then index_in) (said.2.others 9 (λ e. omega (arith, e)) (λ e. omega (arith, e)) (λ e. omega (arith, e)) refl) ∙ sym (ap (option_and_then index_of) said.1) in
          subst (λ o. AreIndexHomes now.pages o (indexes at)) (sym same)
          (kept_same d.pages now.pages (option_and_then index_of (files at)) (indexes at) (below.chains.indexed at) (index_page at))

  -- ---- whose the chains are

  pub named_now : (at : CellAt) (chain : List PlacedCell) → files_now at ≡ Some chain → IsSomebodys it at chain
  named_now at chain there =
      let c = left_was group d.frame.version (all_of d files) count (all_of it files_now) was s.steps at chain there in
      ⊎_elim
      (λ tagged. inl (tagged.0, tagged.1, cells_lead group count d now files files_now indexes below alone s tagged.0 tagged.1 ∙ tagged.2))
      (λ rest. ⊎_elim
      (λ removed. inr (inl (⊎_elim
      (λ keeps. keeps.1 ∙ removed)
      (λ gone. let e : Some Remove ≡ Some Trim = sym removed ∙ gone.was in absurd (cc))
      c.2)))
      (λ quota. inr (inr quota))
      rest)
      (below.chains.named at c.0 c.1)

  -- ---- the list

  pub to_do_now : (at : CellAt) → IsToDo files_now at → IsOnList it at
  to_do_now at left = by_file (files_now at) refl left
    where
      by_file : (o : Option (List PlacedCell)) → files_now at ≡ o → IsSome (option_and_then left_of o) → IsOnList it at
      by_file None gone some = absurd (true≢false (sym some))
      by_file (Some after) there some =
          let c = left_was group d.frame.version (all_of d files) count (all_of it files_now) was s.steps at after there in
          ⊎_elim
          (λ keeps.
          let w = below.chains.to_do at (ap (λ o. is_some (option_and_then left_of o)) c.1 ∙ sym (ap is_some keeps.1) ∙ some) in
          to_do_on group d.frame.version (all_of d files) count (all_of it files_now) was s.steps at after there some w.0 w.1 w.2)
          (λ gone. absurd (true≢false (sym some ∙ ap is_some gone.keeps.1)))
          c.2

  pub listed_now : (at : CellAt) → IsOnList it at → IsToDo files_now at ⊎ IsQuotaToGo it at
  listed_now at on =
      let w = entry_was group d.frame.version (all_of d files) count (all_of it files_now) was s.steps on.0 on.1 in
      ⊎_elim
      (λ left. inl (by_file (files_now at) refl (subst (λ (a : CellAt). IsSome (files_now a)) on.2 (well.listed.each on.0 on.1).there) left))
      (λ quota. inr quota)
      (below.chains.listed at (w.0, w.1, w.2 ∙ on.2))
    where
      by_file : (o : Option (List PlacedCell)) → files_now at ≡ o → IsSome o → IsToDo files at → IsToDo files_now at
      by_file None gone there left = absurd (true≢false (sym there))
      by_file (Some after) is there left =
          let c = left_was group d.frame.version (all_of d files) count (all_of it files_now) was s.steps at after is in
          ⊎_elim
          (λ keeps. ap (λ o. is_some (option_and_then left_of o)) is ∙ ap is_some keeps.1 ∙ sym (ap (λ o. is_some (option_and_then left_of o)) c.1) ∙ left)
          (λ gone. absurd (not_done (all_of it files_now) well on.0 on.1 after (ap files_now on.2 ∙ is) gone.keeps.0 gone.keeps.1))
          c.2

  pub tag_pages_now : (home : Home) → Contains now.list.tag_pages home → (n : ℕ) × HasEmptyTags it n
  tag_pages_now home inside =
      let empty = below.chains.tag_pages home (subst (λ (ps : List Home). Contains ps home) s.tag_pages inside) in
      (empty.0, empty_now group count d now files files_now indexes below alone s empty.0 empty.1)

  -- ---- all of them

  pub used_now : (at : CellAt) (cell : Cell) → IsOnTable now.pages (layout_of it) at cell → IsFirstPlace d.frame at ⊎ IsInChain files_now at
  used_now at cell on = (go group count d now files files_now indexes below alone s).chains at (handed_now group count d now files files_now indexes below alone s at cell on)

  led_chains : QuotasStay d files_now → StandChains it files_now indexes
  led_chains stay = record {
    well = well;
    slots = slots_now group count d now files files_now indexes below alone s;
    quotas = λ n at quota. quotas_now group count d now files files_now indexes below alone s n at quota (stay n at quota);
    indexed = indexed_now;
    used = used_now;
    named = named_now;
    to_do = to_do_now;
    listed = listed_now;
    tag_pages = tag_pages_now;
  }

  pub chains_go : QuotasStay d files_now → StandChains now files_now indexes
  chains_go stay = subst (λ (x : DomainNow). StandChains x files_now indexes) (led_is group count d now files files_now indexes below alone s) (led_chains stay)
