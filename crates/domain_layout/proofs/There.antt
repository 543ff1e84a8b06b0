-- What a fileset has by the chains of its tags it has by the links of their cells, and the other way.
use Rattle.std.proofs.Common.{◌≡◌, ◌∙◌, ℕ, List, [], ◌∷◌, Option, Some, None, IfSome, IsSomeAnd, refl, ap, subst}
use Rattle.file_release.specs.domain_base.declared.place.CellAt.{CellAt}
use Rattle.file_release.specs.domain_base.declared.place.Tag.{Tag}
use Rattle.file_release.specs.page_store.Pages.{Pages}
use Rattle.file_release.specs.metadata_cells.Chain.{LinksFrom, PlacedCell}
use Rattle.file_release.specs.tag_dirs.Directory.{cell_of}
use Rattle.file_release.specs.tag_dirs.declared.dir.TagPlace.{TagPlace}
use Rattle.file_release.proofs.OfTagDirs.Reading.{same_directory}
use Rattle.file_release.specs.file_chains.Files.{IsFile}
use Rattle.file_release.specs.fileset_files.Files.{Chains, LeadsToFile}
use Rattle.fileset_table.specs.declared.slot.FilesetEntry.{FilesetEntry}
use Rattle.domain_layout.specs.DirectoryRules.{IsNotThere, IsThere}
use Rattle.domain_layout.specs.Shape.{HasChains}
use Rattle.domain_layout.proofs.OneShape.{links_same}

pub links_of : (pages : Pages) (at : CellAt) (cells : List PlacedCell) → IsFile pages at cells → LinksFrom pages at cells
links_of pages at [] is = absurd is
links_of pages at (first ∷ rest) is = (is.0, is.1.links)

leads_on : (pages : Pages) (cells : List PlacedCell) (o : Option CellAt) → IsSomeAnd o (λ at. IsFile pages at cells) → IsSomeAnd o (λ at. LinksFrom pages at cells)
leads_on pages cells None leads = absurd leads
leads_on pages cells (Some at) is = links_of pages at cells is

module _ (pages : Pages) (number : ℕ) (entry : FilesetEntry) (chains : Chains) (has : HasChains pages number entry chains) (tag : Tag) where
  pub is_there : (cells : List PlacedCell) → chains tag ≡ Some cells → IsThere pages entry tag cells
  is_there cells there =
      let leads = subst (λ o. IfSome o (LeadsToFile number has.places pages tag)) there (has.files.some tag) in
      record { places = has.places; directory = has.directory; leads = leads_on pages cells _ leads.leads }

  pub is_not_there : chains tag ≡ None → IsNotThere pages entry tag
  is_not_there none = record { places = has.places; directory = has.directory; none = has.files.none tag none }

  pub chain_is : (cells : List PlacedCell) → IsThere pages entry tag cells → chains tag ≡ Some cells
  chain_is cells is = by_chain (chains tag) refl (has.files.some tag)
    where
      leads : IsSomeAnd (cell_of pages has.places tag) (λ at. LinksFrom pages at cells)
      leads = subst (λ (places : List TagPlace). IsSomeAnd (cell_of pages places tag) (λ at. LinksFrom pages at cells)) (same_directory pages entry.first_tag is.places has.places is.directory has.directory) is.leads

      by_cell : (found : List PlacedCell) (o : Option CellAt) → IsSomeAnd o (λ at. IsFile pages at found) → IsSomeAnd o (λ at. LinksFrom pages at cells) → found ≡ cells
      by_cell found None file links = absurd file
      by_cell found (Some at) file links = links_same pages at found cells (links_of pages at found file) links

      by_chain : (o : Option (List PlacedCell)) → chains tag ≡ o → IfSome o (LeadsToFile number has.places pages tag) → o ≡ Some cells
      by_chain None none some = absurd (subst (λ o. IsSomeAnd o (λ at. LinksFrom pages at cells)) (has.files.none tag none) leads)
      by_chain (Some found) there some = ap Some (by_cell found (cell_of pages has.places tag) some.leads leads)

  pub chain_none : IsNotThere pages entry tag → chains tag ≡ None
  chain_none is = by_chain (chains tag) (has.files.some tag)
    where
      leads : cell_of pages has.places tag ≡ None
      leads = ap (λ (places : List TagPlace). cell_of pages places tag) (same_directory pages entry.first_tag has.places is.places has.directory is.directory) ∙ is.none

      by_chain : (o : Option (List PlacedCell)) → IfSome o (LeadsToFile number has.places pages tag) → o ≡ None
      by_chain None some = refl
      by_chain (Some found) some = absurd (subst (λ o. IsSomeAnd o (λ at. IsFile pages at found)) leads some.leads)
