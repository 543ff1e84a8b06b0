-- What a path leads to, as looked up in memory.
use Rattle.std.specs.Prelude.{◌≡◌, ℕ, None, Some}
use Rattle.std.specs.FinMap.{get}
use Rattle.std.specs.Option.{option_map}
use Rattle.fileset_lending.specs.domain_base.declared.place.Kind.{Kind}
use Rattle.fileset_lending.specs.domain_base.declared.place.Tag.{Tag}
use Rattle.fileset_lending.specs.fileset_files.Files.{AreFiles, Chains}
use Rattle.fileset_lending.specs.fileset_values.Orders.{Path}
use Rattle.fileset_lending.specs.fileset_model.Paths.{is_directory, node_at, target_refusal}
use Rattle.fileset_lending.specs.fileset_model.declared.fileset.FilesetSlot.{FilesetSlot}
use Rattle.fileset_lending.specs.name_space.Names.{is_directory_kind, number_of}
use Rattle.fileset_lending.specs.staged_pages.Store.{pages_of}
use Rattle.fileset_lending.specs.standing_laws.Leads.{IsLiveOf}
use Rattle.fileset_lending.specs.domain_memory.Slots.{places_in, slot_in}
use Rattle.fileset_lending.specs.domain_memory.declared.memory.DomainMemory.{DomainMemory}

-- memory is as it was
pub record IsSame (memory now : DomainMemory) : Type 0 where
  pub same : now ≡ record memory { slots = now.slots; listed = now.listed }
  pub slots : now.slots.items ≡ memory.slots.items
  pub listed : now.listed.items ≡ memory.listed.items

-- a tag names a file or directory of this kind in a slot, which stays
abbrev pub IsLiveIn : DomainMemory → ℕ → Tag → Kind → Type 0
IsLiveIn memory number tag of = (chains : Chains)
    → AreFiles number (places_in (slot_in memory.slots.items number)) (pages_of memory.pages) chains
    → IsLiveOf of (chains tag)

-- a path leads to what a tag names, which is of this kind
pub record LeadsTo (path : Path) (fileset : FilesetSlot) (tag : Tag) (of : Kind) : Type 0 where
  pub allowed : target_refusal fileset path ≡ None
  pub at : get fileset.tree.paths path ≡ Some (number_of tag)
  pub kind : option_map is_directory (node_at fileset.tree path) ≡ Some (is_directory_kind of)
