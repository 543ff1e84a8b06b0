-- No file comes to be read through another one where an owner's limits are set.
use Rattle.std.proofs.Common.{◌≡◌, ◌∙◌, ℕ, List, [], ◌∷◌, None, ⊎_elim, ap, arith}
use Rattle.std.proofs.lemmas.Bool.{cases_Bool}
use Rattle.std.specs.Option.{option_and_then}
use Rattle.domain_standing.specs.domain_base.declared.place.CellAt.{CellAt}
use Rattle.domain_standing.specs.page_store.Pages.{Pages}
use Rattle.domain_standing.specs.metadata_cells.Chain.{PlacedCell, is_at}
use Rattle.domain_standing.proofs.OfFileChains.ChainChanges.{at_same}
use Rattle.domain_standing.specs.release_list.Standing.{Files, IsQuotas, source_at, source_in, source_of}
use Rattle.domain_standing.proofs.OfReleaseList.Standings.{differ, quota_first}
use Rattle.domain_standing.specs.Chains.{IndexesAt}
use Rattle.domain_standing.specs.Domain.{DomainNow}
use Rattle.domain_standing.specs.Sources.{StandAlone}
use Rattle.standing_laws.specs.Leads.{StandsBelow}
use Rattle.standing_laws.specs.SetsQuota.{SetsQuota}
use Rattle.standing_laws.proofs.QuotaSlots.{other, there}
use Rattle.standing_laws.proofs.SourcesSaid.{alone_by_files, files_alone}

-- quota cells are no file that is read through another one
no_source : (pages : Pages) (at : CellAt) (chain : List PlacedCell) → IsQuotas pages at chain → source_of chain ≡ None
no_source pages at [] quotas = absurd quotas
no_source pages at (first ∷ rest) quotas = ap (option_and_then source_in) (quota_first pages at (first ∷ rest) quotas 2 (λ e. omega (arith, e)) (λ e. omega (arith, e)))

module _ (number : ℕ) (d now : DomainNow) (files files_now : Files) (indexes : IndexesAt) (below : StandsBelow d files indexes) (after : StandsBelow now files_now indexes) (s : SetsQuota number d now files files_now) where
  none_now : StandAlone d → (at : CellAt) → source_at files_now at ≡ None
  none_now alone at = ⊎_elim
      (λ same.
      ap (source_at files_now) (at_same at s.sets.start same) ∙ ap (option_and_then source_of) (there number d now files files_now indexes below s)
      ∙ no_source now.pages s.sets.start s.sets.sets.after s.sets.sets.is)
      (λ apart. ap (option_and_then source_of) (other number d now files files_now indexes below s at (λ same. differ at s.sets.start apart same)) ∙ files_alone d files indexes below alone at)
      (cases_Bool (is_at at s.sets.start))

  pub alone_limited : StandAlone d → StandAlone now
  alone_limited alone = alone_by_files now files_now indexes after (none_now alone)
