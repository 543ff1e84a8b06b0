-- The chains of a domain after a call on a tag.
use Rattle.std.proofs.Common.{◌≡◌, ◌∙◌, ◌⊎◌, ℕ, List, Some, IsSomeAnd, Contains, inl, inr, sym, ap, subst, ⊎_elim}
use Rattle.domain_standing.specs.domain_base.declared.place.CellAt.{CellAt}
use Rattle.domain_standing.specs.domain_base.declared.place.Tag.{Tag}
use Rattle.domain_standing.specs.metadata_cells.Cell.{Cell}
use Rattle.domain_standing.specs.metadata_cells.Chain.{PlacedCell, places}
use Rattle.domain_standing.specs.free_cells.Cells.{Cells}
use Rattle.domain_standing.proofs.OfFreeCells.Belongs.{used_not_free}
use Rattle.domain_standing.specs.file_chains.MapChanges.{IsHandedOut}
use Rattle.domain_standing.proofs.OfFileChains.Added.{used_of}
use Rattle.domain_standing.specs.fileset_files.Files.{Chains}
use Rattle.domain_standing.specs.release_list.Standing.{Files}
use Rattle.domain_standing.proofs.OfReleaseList.Standings.{file_other, file_there, same_or_not}
use Rattle.domain_standing.specs.release_steps.Calls.{FilesetNow, Refuses}
use Rattle.domain_standing.proofs.OfReleaseSteps.StillAmong.{file_of_tag}
use Rattle.domain_standing.specs.domain_layout.CellRules.{IsFirstPlace}
use Rattle.domain_standing.specs.domain_layout.Owners.{IsOnTable}
use Rattle.domain_standing.specs.domain_layout.Reached.{Frame}
use Rattle.domain_standing.specs.Chains.{IndexesAt, IsInChain}
use Rattle.domain_standing.specs.Domain.{DomainNow, layout_of}
use Rattle.standing_laws.specs.Leads.{LeadsOn, StandsBelow}
use Rattle.standing_laws.proofs.CellsNow.{AreUsed, below_28}
use Rattle.standing_laws.proofs.ChainsGoOn.{ChainGoesOn, FileGoesOn, call_chain}
use Rattle.standing_laws.proofs.TablesStand.{member_of_table, new, old, together_now, used}

module _ (number : ℕ) (tag : Tag) (d now : DomainNow) (chains chains_now : Chains) (files files_now : Files) (indexes : IndexesAt) (below : StandsBelow d files indexes) (s : LeadsOn number tag d now chains chains_now files files_now) where
  abbrev was : FilesetNow
  was = old number tag d now chains chains_now files files_now indexes below s

  abbrev is : FilesetNow
  is = new number tag d now chains chains_now files files_now indexes below s

  are_used : AreUsed was
  are_used = used number tag d now chains chains_now files files_now indexes below s

  pub chain_goes : Refuses was is ⊎ ChainGoesOn tag was is
  chain_goes = call_chain number d.frame.version tag was is s.well are_used d.table.made s.call s.may

  -- ---- cells in use

  module _ (g : ChainGoesOn tag was is) where
    pub there_now : files_now g.start ≡ Some g.after
    there_now = ap (λ (f : Files). f g.start) g.files ∙ file_there g.start (Some g.after) files

    pub other_now : (at : CellAt) → ¬ at ≡ g.start → files_now at ≡ files at
    other_now at apart = ap (λ (f : Files). f at) g.files ∙ file_other g.start (Some g.after) files at apart

    -- the tag's chain began there
    pub was_there : (cs : List PlacedCell) → FileGoesOn tag was g.start cs g.after → files g.start ≡ Some cs
    was_there cs f = file_of_tag files chains tag cs g.start (s.well.among.same tag) f.is f.began

    kept_cells : (at : CellAt) → IsSomeAnd (files g.start) (λ chain. Contains (places chain) at) → Contains (places g.after) at
    kept_cells at inside = ⊎_elim
        (λ fresh. absurd (subst (λ o. IsSomeAnd o (λ chain. Contains (places chain) at)) fresh.none inside))
        (λ f. f.1.kept at (subst (λ o. IsSomeAnd o (λ chain. Contains (places chain) at)) (was_there f.0 f.1) inside))
        g.from

    in_after : (at : CellAt) → Contains (places g.after) at → IsInChain files_now at
    in_after at inside = (g.start, subst (λ o. IsSomeAnd o (λ chain. Contains (places chain) at)) (sym there_now) inside)

    in_chain_now : (at : CellAt) → IsInChain files at → IsInChain files_now at
    in_chain_now at inside = ⊎_elim
        (λ same. in_after at (kept_cells at (subst (λ (a : CellAt). IsSomeAnd (files a) (λ chain. Contains (places chain) at)) same inside.1)))
        (λ apart. (inside.0, subst (λ o. IsSomeAnd o (λ chain. Contains (places chain) at)) (sym (other_now inside.0 apart)) inside.1))
        (same_or_not inside.0 g.start)

  module _ (at : CellAt) (cell : Cell) (on : IsOnTable now.pages (layout_of now) at cell) where
    handed : IsHandedOut now.cells at
    handed = record {
      on = on.table;
      within = below_28 now.pages at cell on.stands;
      taken = used_not_free now.cells now.pages (together_now number tag d now chains chains_now files files_now indexes below s).allocated.belong at (used_of now.pages at cell on.stands);
    }

    was_used : IsHandedOut d.cells at → IsFirstPlace d.frame at ⊎ IsInChain files at
    was_used out =
        let cell_was = are_used at out in
        below.chains.used at cell_was.0 (record {
          member = member_of_table number tag d now chains chains_now files files_now indexes below s at.vol at.page out.on;
          table = out.on;
          stands = cell_was.1;
        })

    first_now : IsFirstPlace d.frame at → IsFirstPlace now.frame at
    first_now first = subst (λ (f : Frame). IsFirstPlace f at) (sym s.frame) first

    pub used_now : IsFirstPlace now.frame at ⊎ IsInChain files_now at
    used_now = ⊎_elim
        (λ same. ⊎_elim
        (λ first. inl (first_now first))
        (λ inside. inr (subst (λ (f : Files). IsInChain f at) (sym same.files) inside))
        (was_used (subst (λ (c : Cells). IsHandedOut c at) same.cells handed)))
        (λ g. ⊎_elim
        (λ out. ⊎_elim (λ first. inl (first_now first)) (λ inside. inr (in_chain_now g at inside)) (was_used out))
        (λ inside. inr (in_after g at (g.mine at inside)))
        (g.goes.handed at handed))
        chain_goes
