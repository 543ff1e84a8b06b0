-- Calls on one tag of an original, as changes of a domain that stands.
use Rattle.std.specs.Prelude.{◌≡◌, ◌≤◌, ℕ, Option, Some, IsSomeAnd, List}
use Rattle.std.specs.Option.{option_and_then}
use Rattle.domain_standing.specs.domain_base.declared.place.Kind.{Kind}
use Rattle.domain_standing.specs.domain_base.declared.place.Kind.TheVariants.{Directory}
use Rattle.domain_standing.specs.domain_base.declared.place.Tag.{Tag}
use Rattle.domain_standing.specs.domain_base.declared.version.Version.{Version}
use Rattle.domain_standing.specs.metadata_cells.Chain.{PlacedCell}
use Rattle.domain_standing.specs.extent_maps.declared.run.PagePlace.TheVariants.{Absent}
use Rattle.domain_standing.specs.file_chains.Files.{places_of}
use Rattle.domain_standing.specs.fileset_files.Changes.{CanSay}
use Rattle.domain_standing.specs.fileset_files.Files.{Chains, attributes_of, of_live}
use Rattle.domain_standing.specs.fileset_files.Truncation.{IsLowered}
use Rattle.domain_standing.specs.fileset_table.declared.slot.FilesetEntry.{FilesetEntry}
use Rattle.domain_standing.specs.fileset_table.declared.slot.SlotItem.TheVariants as slot
use Rattle.domain_standing.specs.release_list.Standing.{Files}
use Rattle.domain_standing.specs.release_steps.Calls.{Call, FilesetNow, StandsWell, cut, described, dropped, given, indexed, made, moved, put_in, refused}
use Rattle.domain_standing.specs.Chains.{IndexesAt, StandChains}
use Rattle.domain_standing.specs.Domain.{DomainNow, all_of, item_in}
use Rattle.domain_standing.specs.Holders.{HoldsOwned}
use Rattle.domain_standing.specs.Rest.{SaysTheRest}
use Rattle.domain_standing.specs.Tables.{StandTables}

-- all of a domain that stands, but for its filesets
pub record StandsBelow (d : DomainNow) (files : Files) (indexes : IndexesAt) : Type 0 where
  pub tables : StandTables d
  pub chains : StandChains d files indexes
  pub owned : HoldsOwned d files indexes
  pub rest : SaysTheRest d files

-- the fileset in a slot with the files of its tags, among those of the domain
abbrev pub fileset_now : DomainNow → ℕ → Chains → Files → FilesetNow
fileset_now d number chains files =
    record { places = d.tags number; chains = chains; domain = all_of d files }

-- a live file or directory of this kind
abbrev pub IsLiveOf : Kind → Option (List PlacedCell) → Type 0
IsLiveOf kind chain =
    IsSomeAnd (option_and_then (of_live attributes_of) chain) (λ is. is.kind ≡ kind)

-- a call that a domain may make so: a page that is given is one that the file did not have, as the
-- page that stood there would be held for nothing; what is said of a file fits it, only a directory
-- says a parent, a file keeps as much as its new size asks, and a new one is of no clone that was
-- not made. Pages are not put elsewhere, and of where an index begins other laws tell
abbrev pub MayCall : (made_so_far : ℕ) (number : ℕ) (version : Version) (tag : Tag)
    (old new : FilesetNow) → Call number version tag old new → Type 0
MayCall so_far number version tag old new (refused s) = Unit {0}
MayCall so_far number version tag old new (given s) =
    places_of s.chain s.puts.page ≡ Absent
MayCall so_far number version tag old new (moved s) = ⊥
MayCall so_far number version tag old new (described value s) = CanSay value tag old.chains
MayCall so_far number version tag old new (put_in parent s) = IsLiveOf Directory (old.chains tag)
MayCall so_far number version tag old new (indexed index s) = ⊥
MayCall so_far number version tag old new (cut size lowered s) =
    IsSomeAnd (old.chains tag) (λ chain. IsLowered size chain lowered)
MayCall so_far number version tag old new (dropped s) = Unit {0}
MayCall so_far number version tag old new (made s) = s.what.birth ≤ so_far

-- a call on a tag of the original in a slot leads from one domain to another
pub record LeadsOn (number : ℕ) (tag : Tag) (d now : DomainNow) (chains chains_now : Chains)
    (files files_now : Files) : Type 0 where
  pub entry : FilesetEntry
  pub original : item_in d number ≡ Some (slot.Original entry)
  pub well : StandsWell number (fileset_now d number chains files)
  pub call : Call number d.frame.version tag (fileset_now d number chains files)
      (fileset_now now number chains_now files_now)
  pub may : MayCall d.table.made number d.frame.version tag (fileset_now d number chains files)
      (fileset_now now number chains_now files_now) call
  pub frame : now.frame ≡ d.frame
  pub table : now.table ≡ d.table
  pub tags : (other : ℕ) → ¬ other ≡ number → now.tags other ≡ d.tags other
