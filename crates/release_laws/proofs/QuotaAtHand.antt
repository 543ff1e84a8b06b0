-- The quota cells of what is being removed are at hand where it is known that a domain stands: with them as
-- the last thing on its list they may be let go of.
use Rattle.std.proofs.Common.{◌≡◌, ◌∙◌, inl, inr, ℕ, List, Option, Some, None, IsSome, IsSomeAnd, refl, sym, ap, arith, ⊎_elim, true≢false}
use Rattle.std.proofs.Math.Logic.{∥∥₁_elim, ∥∥₁_map}
use Rattle.standing_laws.specs.domain_base.declared.place.CellAt.{CellAt}
use Rattle.standing_laws.specs.metadata_cells.Chain.{PlacedCell}
use Rattle.standing_laws.specs.file_chains.Files.{IsFile}
use Rattle.standing_laws.specs.fileset_files.Files.{first_record}
use Rattle.standing_laws.specs.release_list.Standing.{Files, IsFileOrQuotas, IsQuotas}
use Rattle.standing_laws.specs.release_list.Steps.{HasQuotas, IsWell}
use Rattle.standing_laws.specs.release_list.declared.list.Entry.{Entry}
use Rattle.standing_laws.proofs.OfReleaseList.Lists.{last_in}
use Rattle.standing_laws.proofs.OfReleaseList.Standings.{quota_first, standing}
use Rattle.standing_laws.specs.release_steps.Kept.{HasNoEntry}
use Rattle.standing_laws.proofs.OfReleaseSteps.Tags.{has_attributes}
use Rattle.standing_laws.proofs.OfDomainLayout.OneShape.{links_same}
use Rattle.standing_laws.specs.domain_standing.Chains.{AreQuotasOf, IndexesAt, IsQuotaOf, IsRemoved}
use Rattle.standing_laws.specs.domain_standing.Domain.{DomainNow, all_of, item_in}
use Rattle.standing_laws.specs.domain_standing.Sources.{StandAlone}
use Rattle.standing_laws.specs.Leads.{StandsBelow}
use Rattle.release_laws.proofs.FilesAtHand.{files_at_hand, links}
use Rattle.release_laws.proofs.QuotasListed.{quotas_listed, with_quotas}

-- all of a domain but its filesets stands with some files, none of which is read through another one
abbrev pub StandsAlone : DomainNow → Type 0
StandsAlone d = (files : Files) × (indexes : IndexesAt) × StandsBelow d files indexes × StandAlone d

module _ (d : DomainNow) (stands : ∥ StandsAlone d ∥₁) (number : ℕ) (at : CellAt) (quota : IsQuotaOf d number at) (removed : IsRemoved (item_in d number)) (unlisted : HasNoEntry d.list at) where
  abbrev it : DomainNow
  it = with_quotas at d

  abbrev entry : Entry
  entry = record { at = at; clone = None }

  found : (files : Files) × IsWell (all_of it files)
  found = files_at_hand it (∥∥₁_map stands (λ s. (s.0, s.1, quotas_listed d s.0 s.1 s.2 s.3 number at quota removed unlisted)))

  -- what begins there is no file
  no_file : (chain : List PlacedCell) → IsFileOrQuotas d.pages at chain → IsQuotas d.pages at chain
  no_file chain = ⊎_elim
      (λ file. absurd (∥∥₁_elim stands (λ x y. absurd x) (λ s. by_chain s.0 s.1 s.2 (s.0 at) refl (s.2.chains.quotas number at quota) file)))
      (λ quotas. quotas)
    where
      by_chain : (files : Files) (indexes : IndexesAt) → StandsBelow d files indexes → (o : Option (List PlacedCell)) → files at ≡ o → IsSomeAnd o (AreQuotasOf d number at) → IsFile d.pages at chain → ⊥
      by_chain files indexes below None is are file = are
      by_chain files indexes below (Some cs) is are file =
          let same = links_same d.pages at chain cs (links d at chain (inl file)) (links d at cs (inr are.quotas)) in
          has_attributes d.pages at chain file (ap (first_record 1) same ∙ quota_first d.pages at cs are.quotas 1 (λ e. omega (arith, e)) (λ e. omega (arith, e)))

  pub quotas_at_hand : (files : Files) × HasQuotas d.list.entries entry (all_of it files)
  quotas_at_hand = by_chain (found.0 at) refl (found.1.listed.each entry (last_in d.list.entries entry)).there
    where
      by_chain : (o : Option (List PlacedCell)) → found.0 at ≡ o → IsSome o → (files : Files) × HasQuotas d.list.entries entry (all_of it files)
      by_chain None is there = absurd (true≢false (sym there))
      by_chain (Some chain) is there = (
        found.0,
        record {
          has = record { last = refl; well = found.1 };
          chain = chain;
          is = is;
          quotas = no_file chain (standing d.space d.cells d.pages found.0 found.1.together at chain is).stands;
        },
      )
