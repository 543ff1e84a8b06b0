-- The files of a fileset among those of a domain.
use Rattle.std.specs.Prelude.{◌≡◌, ◌≤◌, ℕ, true, false, List, [], ◌∷◌, Option, Some, None, IfSome, Contains}
use Rattle.std.specs.Option.{option_and_then}
use Rattle.release_list.specs.domain_base.declared.place.CellAt.{CellAt}
use Rattle.release_list.specs.domain_base.declared.place.Home.{Home}
use Rattle.release_list.specs.domain_base.declared.place.Tag.{Tag}
use Rattle.release_list.specs.cell_records.declared.record.Leftover.TheVariants.{Trim}
use Rattle.release_list.specs.metadata_cells.Chain.{PlacedCell}
use Rattle.release_list.specs.tag_dirs.declared.dir.TagPlace.{TagPlace}
use Rattle.release_list.specs.tag_dirs.Directory.{has_home}
use Rattle.release_list.specs.extent_maps.declared.run.PagePlace.TheVariants.{At}
use Rattle.release_list.specs.fileset_files.Files.{Chains, is_removed}
use Rattle.release_list.specs.declared.list.Entry.{Entry}
use Rattle.release_list.specs.Listed.{left_of}
use Rattle.release_list.specs.Standing.{Files, place_in}
use Rattle.release_list.specs.Steps.{Now}

-- where a chain begins
abbrev pub start_of : List PlacedCell → Option CellAt
start_of [] = None
start_of (first ∷ rest) = Some first.at

-- the tags' files as they are among these: those that begin where the tags' chains do
abbrev pub chains_in : Files → Chains → Chains
chains_in files chains = λ tag. option_and_then files (option_and_then start_of (chains tag))

-- each file that a tag names is one of the domain's, none is to be removed, and one that is on the
-- list is to be trimmed; and each page of the tag directory stands on a volume, has no file's page,
-- and is not on the list
pub record AreAmong (now : Now) (places : List TagPlace) (chains : Chains) : Type 0 where
  pub same : (tag : Tag) → chains_in now.files chains tag ≡ chains tag
  pub live : (tag : Tag) → IfSome (chains tag) (λ cells. is_removed cells ≡ false)
  pub trimmed : (entry : Entry) → Contains now.list.entries entry → (tag : Tag)
      → option_and_then start_of (chains tag) ≡ Some entry.at
      → option_and_then left_of (chains tag) ≡ Some Trim
  pub low : (home : Home) → has_home places home ≡ true → 1 ≤ home.vol
  pub no_tags : (at : CellAt) (page : ℕ) (home : Home) → place_in now.files at page ≡ At home
      → has_home places home ≡ false
  pub not_listed : (home : Home) → Contains now.list.tag_pages home → has_home places home ≡ false
