-- Steps in which things on the list of a domain are let go of, as a change of the domain.
use Rattle.std.specs.Prelude.{◌≡◌, ℕ, List, None, Some}
use Rattle.standing_laws.specs.domain_base.declared.place.CellAt.{CellAt}
use Rattle.standing_laws.specs.domain_base.declared.place.Home.{Home}
use Rattle.standing_laws.specs.metadata_cells.Chain.{PlacedCell}
use Rattle.standing_laws.specs.fileset_files.Shown.{index_of}
use Rattle.standing_laws.specs.release_list.Standing.{Files}
use Rattle.standing_laws.specs.release_list.Steps.{Steps}
use Rattle.standing_laws.specs.release_steps.Kept.{HasNoEntry}
use Rattle.standing_laws.specs.domain_standing.Chains.{IsQuotaOf, IsRemoved}
use Rattle.standing_laws.specs.domain_standing.Domain.{DomainNow, all_of, item_in}

-- quota cells that a slot names do not all go
abbrev pub QuotasStay : DomainNow → Files → Type 0
QuotasStay d files_now = (number : ℕ) (at : CellAt) → IsQuotaOf d number at
    → ¬ files_now at ≡ None

-- so many steps lead from one domain to another, and the pages of which nothing is changed have the
-- bytes that they had. No page of a tag directory goes; quota cells that a slot names are on the
-- list only where what is in that is being removed; and a file that is gone named no index: that
-- goes with the tag
pub record Releases (group count : ℕ) (d now : DomainNow) (files files_now : Files) : Type 0 where
  pub steps : Steps group d.frame.version (all_of d files) count (all_of now files_now)
  pub frame : now.frame ≡ d.frame
  pub table : now.table ≡ d.table
  pub tags : now.tags ≡ d.tags
  pub bytes : (home : Home) → now.pages home ≡ d.pages home
      → now.contents home ≡ d.contents home
  pub tag_pages : now.list.tag_pages ≡ d.list.tag_pages
  pub quotas : (number : ℕ) (at : CellAt) → IsQuotaOf d number at → ¬ IsRemoved (item_in d number)
      → HasNoEntry d.list at
  pub gone : (at : CellAt) (chain : List PlacedCell) → files at ≡ Some chain
      → files_now at ≡ None → index_of chain ≡ None
