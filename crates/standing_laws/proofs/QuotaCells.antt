-- The cells of a domain once an owner's limits are set in a slot's fileset.
use Rattle.std.proofs.Common.{◌≡◌, ◌∙◌, ◌⊎◌, ℕ, List, Option, Some, None, Contains, inl, inr, sym, ap, subst, arith, ⊎_elim, true≢false}
use Rattle.domain_standing.specs.domain_base.declared.place.CellAt.{CellAt}
use Rattle.domain_standing.specs.metadata_cells.declared.head.CellKind.TheVariants.{Quota, Volume}
use Rattle.domain_standing.specs.metadata_cells.Cell.{Cell}
use Rattle.domain_standing.specs.metadata_cells.Chain.{PlacedCell, StandsAt, places}
use Rattle.domain_standing.proofs.OfMetadataCells.Unique.{one_stands}
use Rattle.domain_standing.specs.free_cells.Cells.{Cells, is_closed, table_of}
use Rattle.domain_standing.specs.quota_book.QuotaCells.{touched}
use Rattle.domain_standing.specs.release_list.Standing.{Files, IsQuotaCell, IsQuotas}
use Rattle.domain_standing.specs.release_steps.Calls.{FilesetNow}
use Rattle.domain_standing.specs.release_steps.QuotaChain.{IsQuotaChain, TakesIfUntouched, said_in}
use Rattle.domain_standing.proofs.OfReleaseSteps.Chains.{all_quotas, quotas_stand}
use Rattle.domain_standing.specs.Chains.{IndexesAt}
use Rattle.domain_standing.specs.Domain.{DomainNow}
use Rattle.standing_laws.specs.Leads.{StandsBelow, fileset_now}
use Rattle.standing_laws.specs.NewFileset.{no_chains}
use Rattle.standing_laws.specs.SetsQuota.{SetsQuota}
use Rattle.standing_laws.proofs.CellsNow.{AreUsed, CellsGoOn, all_in, in_or_out, placed, used_or_free}
use Rattle.standing_laws.proofs.QuotaSlots.{member_of_table}
use Rattle.standing_laws.proofs.TablesTaken.{IsGrown, one_grown, one_marks}

module _ (number : ℕ) (d now : DomainNow) (files files_now : Files) (indexes : IndexesAt) (below : StandsBelow d files indexes) (s : SetsQuota number d now files files_now) where
  abbrev pub after : List PlacedCell
  after = s.sets.sets.after

  abbrev pub was : FilesetNow
  was = fileset_now d number no_chains files

  abbrev pub is : FilesetNow
  is = fileset_now now number no_chains files_now

  pub are_used : AreUsed was
  are_used at out = ⊎_elim
      (λ used. used)
      (λ free. absurd (true≢false (sym ((below.tables.cells.free at).1
      (record { member = member_of_table number d now files files_now indexes below s at.vol at.page out.on; table = out.on; within = out.within; free = free })) ∙ out.taken)))
      (used_or_free d.pages d.cells below.chains.well.together.allocated.belong at out.on out.within)

  -- none of the chain that was is of the kind of a volume's first
  not_volume : (at : CellAt) (cell : Cell) → StandsAt d.pages at cell → Contains (places s.sets.chain) at → ¬ cell.head.kind ≡ Volume
  not_volume at cell stands inside volume = by_first s.entry.quota s.sets.is
    where
      by_quotas : (a : CellAt) → IsQuotas d.pages a s.sets.chain → ⊥
      by_quotas a quotas =
          let c = placed s.sets.chain at inside in
          let quota = all_in (λ (q : PlacedCell). IsQuotaCell q.cell) s.sets.chain (all_quotas d.pages a s.sets.chain quotas) c.0 c.1 in
          let there = all_in (λ (q : PlacedCell). StandsAt d.pages q.at q.cell) s.sets.chain (quotas_stand d.pages a s.sets.chain quotas) c.0 c.1 in
          let same : c.0.cell ≡ cell = one_stands d.pages at c.0.cell cell (subst (λ (p : CellAt). StandsAt d.pages p c.0.cell) c.2 there) stands in
          let e : Quota ≡ Volume = sym quota.kind ∙ ap (λ (x : Cell). x.head.kind) same ∙ volume in
          absurd (cc)

      by_first : (o : Option CellAt) → IsQuotaChain d.pages o s.sets.chain → ⊥
      by_first None none = let within = (subst (λ (cs : List PlacedCell). Contains (places cs) at) none inside).1 in omega (arith, within)
      by_first (Some a) quotas = by_quotas a quotas

  pub goes : CellsGoOn was is after
  goes = record {
    stand = all_in (λ (c : PlacedCell). StandsAt now.pages c.at c.cell) after (quotas_stand now.pages s.sets.start after s.sets.sets.is);
    handed = s.sets.sets.handed;
    others = λ at cell stands on. ⊎_elim
        (λ inside. inr (s.sets.sets.kept at inside, not_volume at cell stands inside))
        (λ out. inl (s.sets.others at cell stands on out))
        (in_or_out s.sets.chain at);
  }

  -- its own cells are quota cells
  pub quota_in : (c : PlacedCell) → Contains after c → IsQuotaCell c.cell
  quota_in = all_in (λ (q : PlacedCell). IsQuotaCell q.cell) after (all_quotas now.pages s.sets.start after s.sets.sets.is)

  -- ---- the tables of cells

  grown_by : (o : Option ℕ) → TakesIfUntouched o s.prefer d.space now.space d.cells now.cells d.pages → (vol : ℕ) → IsGrown d.space vol (table_of d.cells vol) (table_of now.cells vol)
  grown_by (Some k) same vol = inl (ap (λ (c : Cells). table_of c vol) same.1)
  grown_by None one vol = one_grown s.prefer d.space now.space d.cells now.cells d.pages one vol

  pub grown : (vol : ℕ) → IsGrown d.space vol (table_of d.cells vol) (table_of now.cells vol)
  grown = grown_by (touched (said_in s.sets.chain) s.who) s.sets.taken

  marks_by : (o : Option ℕ) → TakesIfUntouched o s.prefer d.space now.space d.cells now.cells d.pages → (vol : ℕ) → is_closed now.cells vol ≡ is_closed d.cells vol
  marks_by (Some k) same vol = ap (λ (c : Cells). is_closed c vol) same.1
  marks_by None one vol = one_marks s.prefer d.space now.space d.cells now.cells d.pages one vol

  pub marks : (vol : ℕ) → is_closed now.cells vol ≡ is_closed d.cells vol
  marks = marks_by (touched (said_in s.sets.chain) s.who) s.sets.taken
