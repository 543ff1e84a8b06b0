-- A domain once things on its list were let go of, with its frame, table and tags as they were.
use Rattle.std.proofs.Common.{◌≡◌, ◌∙◌, ◌⊎◌, ℕ, List, length, Contains, sym, ap, subst, arith, ⊎_elim, true≢false}
use Rattle.standing_laws.specs.domain_base.declared.place.CellAt.{CellAt}
use Rattle.standing_laws.specs.log_ring.Homes.{IsMember}
use Rattle.standing_laws.specs.metadata_cells.Cell.{Cell}
use Rattle.standing_laws.specs.free_cells.Cells.{table_of}
use Rattle.standing_laws.proofs.OfFreeCells.Belongs.{used_not_free}
use Rattle.standing_laws.specs.file_chains.Changes.{IsInUse}
use Rattle.standing_laws.specs.file_chains.MapChanges.{IsHandedOut}
use Rattle.standing_laws.proofs.OfFileChains.Added.{used_of}
use Rattle.standing_laws.specs.release_list.Standing.{Files}
use Rattle.standing_laws.specs.release_list.Steps.{IsWell}
use Rattle.standing_laws.proofs.OfReleaseSteps.Wells.{wells_stay}
use Rattle.standing_laws.proofs.OfDomainLayout.Reached.{member_or_none}
use Rattle.standing_laws.specs.domain_layout.CellRules.{IsFirstPlace}
use Rattle.standing_laws.specs.domain_layout.Owners.{IsOnTable}
use Rattle.standing_laws.specs.domain_standing.Chains.{IndexesAt, IsInChain}
use Rattle.standing_laws.specs.domain_standing.Domain.{DomainNow, all_of, layout_of}
use Rattle.standing_laws.specs.domain_standing.Sources.{StandAlone}
use Rattle.standing_laws.specs.Leads.{StandsBelow}
use Rattle.standing_laws.proofs.CellsNow.{below_28, used_or_free}
use Rattle.standing_laws.proofs.SourcesSaid.{files_alone}
use Rattle.release_laws.specs.Released.{Releases}
use Rattle.release_laws.proofs.Going.{AllGo, all_go}
use Rattle.release_laws.proofs.OneStep.{AreAlone}

-- ---- a domain that stands

module _ (d : DomainNow) (files : Files) (indexes : IndexesAt) (below : StandsBelow d files indexes) where
  pub well_was : IsWell (all_of d files)
  well_was = below.chains.well

  pub member_of_table : (vol p : ℕ) → Contains (table_of d.cells vol) p → IsMember d.frame.anchor vol
  member_of_table vol p on = ⊎_elim
      (λ member. member)
      (λ none. let e : length (table_of d.cells vol) ≡ 0 = ap length (below.tables.cells.others vol none) in absurd (omega (arith, e, on.1)))
      (member_or_none d.frame.anchor vol)

  -- all that were handed out are in use
  pub used_was : (q : CellAt) → IsHandedOut d.cells q → IsInUse d.pages q
  used_was q is = ⊎_elim
      (λ in_use. in_use)
      (λ free. absurd (true≢false (sym ((below.tables.cells.free q).1 (record { member = member_of_table q.vol q.page is.on; table = is.on; within = is.within; free = free })) ∙ is.taken)))
      (used_or_free d.pages d.cells well_was.together.allocated.belong q is.on is.within)

  pub chains_was : (q : CellAt) → IsHandedOut d.cells q → IsFirstPlace d.frame q ⊎ IsInChain files q
  chains_was q is = let cell = used_was q is in below.chains.used q cell.0 (record { member = member_of_table q.vol q.page is.on; table = is.on; stands = cell.1 })

-- ---- over the steps

module _ (group count : ℕ) (d now : DomainNow) (files files_now : Files) (indexes : IndexesAt) (below : StandsBelow d files indexes) (alone : StandAlone d) (s : Releases group count d now files files_now) where
  abbrev pub led : DomainNow
  led = record now { frame = d.frame; table = d.table; tags = d.tags }

  pub led_is : led ≡ now
  led_is = λ i. record now { frame = sym s.frame i; table = sym s.table i; tags = sym s.tags i }

  pub alone_was : AreAlone files
  alone_was = files_alone d files indexes below alone

  pub well_now : IsWell (all_of led files_now)
  well_now = wells_stay group d.frame.version (all_of d files) count (all_of led files_now) (well_was d files indexes below) s.steps

  pub go : AllGo (IsFirstPlace d.frame) (all_of d files) (all_of led files_now)
  go = all_go group d.frame.version (IsFirstPlace d.frame) (all_of d files) count (all_of led files_now) (well_was d files indexes below) alone_was s.steps s.tag_pages
      (used_was d files indexes below) (chains_was d files indexes below)

  pub on_was : (vol p : ℕ) → Contains (table_of now.cells vol) p → Contains (table_of d.cells vol) p
  on_was vol p on = subst (λ (t : List ℕ). Contains t p) (go.tables vol) on

  pub on_now : (vol p : ℕ) → Contains (table_of d.cells vol) p → Contains (table_of now.cells vol) p
  on_now vol p on = subst (λ (t : List ℕ). Contains t p) (sym (go.tables vol)) on

  -- a cell in use is one that was handed out
  pub handed_now : (q : CellAt) (cell : Cell) → IsOnTable now.pages (layout_of led) q cell → IsHandedOut now.cells q
  handed_now q cell on = record {
    on = on.table;
    within = below_28 now.pages q cell on.stands;
    taken = used_not_free now.cells now.pages well_now.together.allocated.belong q (used_of now.pages q cell on.stands);
  }
