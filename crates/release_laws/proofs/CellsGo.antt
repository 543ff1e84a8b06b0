-- What a step makes of single cells where no file is read through another one.
use Rattle.std.proofs.Common.{◌≡◌, ◌∙◌, inl, Contains, sym, subst, ⊎_elim}
use Rattle.standing_laws.specs.domain_base.declared.place.CellAt.{CellAt}
use Rattle.standing_laws.specs.metadata_cells.Cell.{Cell}
use Rattle.standing_laws.specs.metadata_cells.Chain.{PlacedCell, StandsAt}
use Rattle.standing_laws.proofs.OfMetadataCells.Unique.{one_stands}
use Rattle.standing_laws.specs.free_cells.Cells.{table_of}
use Rattle.standing_laws.specs.file_chains.Changes.{IsInUse}
use Rattle.standing_laws.specs.file_chains.MapChanges.{IsHandedOut}
use Rattle.standing_laws.specs.release_list.Steps.{IsWell, Now}
use Rattle.standing_laws.proofs.OfReleaseList.Standings.{stand_chain}
use Rattle.standing_laws.proofs.CellsNow.{all_in, in_or_out}
use Rattle.release_laws.proofs.CellFates.{CellGoes, stays}
use Rattle.release_laws.proofs.Going.{after_there, cell_there, chain_stands, handed_out}
use Rattle.release_laws.proofs.OneStep.{OneGoes}

module _ (old new : Now) (well : IsWell old) (now : IsWell new) (g : OneGoes old new) (used : (q : CellAt) → IsHandedOut old.cells q → IsInUse old.pages q) where
  -- one stood there, and this is what became of it
  pub cell_was : (q : CellAt) (cell : Cell) → StandsAt new.pages q cell → Contains (table_of new.cells q.vol) q.page
      → (was : Cell) × StandsAt old.pages q was × CellGoes (record { at = q; cell = was }) (record { at = q; cell = cell })
  cell_was q cell stands on = ⊎_elim
      (λ inside. ⊎_elim
      (λ left.
      let c = cell_there new now g.entry.at g.after (after_there old new well now g q left) q left in
      let b = g.cells.each c.0 c.1 in
      let same : c.0 ≡ record { at = q; cell = cell } = (let e = one_stands new.pages q c.0.cell cell c.3 stands in λ i. record { at = c.2 i; cell = e i }) in
      let at : b.0.at ≡ q = sym b.2 ∙ c.2 in
      let was : b.0 ≡ record { at = q; cell = b.0.cell } = (λ i. record { at = at i; cell = b.0.cell }) in (
        b.0.cell,
        subst (λ (p : CellAt). StandsAt old.pages p b.0.cell) at (all_in (λ (c : PlacedCell). StandsAt old.pages c.at c.cell) g.chain (stand_chain old.pages g.entry.at g.chain (chain_stands old well g.entry.at g.chain g.was).stands) b.0 b.1),
        subst (λ (x : PlacedCell). CellGoes x (record { at = q; cell = cell })) was (subst (CellGoes b.0) same b.3),
      ))
      (λ out. absurd (g.left q handed inside out))
      (in_or_out g.after q))
      (λ out.
      let is = used q (g.handed q handed) in
      let same : is.0 ≡ cell = one_stands new.pages q is.0 cell (g.others q is.0 is.1 (g.handed q handed).on out) stands in
      (is.0, is.1, inl (stays (λ i. record { at = q; cell = sym same i }))))
      (in_or_out g.chain q)
    where
      handed : IsHandedOut new.cells q
      handed = handed_out old new well now g q cell stands on
