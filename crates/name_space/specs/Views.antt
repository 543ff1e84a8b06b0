-- What a clone shows of the files and directories of its original.
use Rattle.std.specs.Prelude.{◌≡◌, ◌⊎◌, true, false, [], None}
use Rattle.std.specs.Option.{option_map}
use Rattle.std.specs.FinMap.{contains_key}
use Rattle.plain_program.specs.domain_base.declared.place.Tag.{Tag}
use Rattle.directory_rows.specs.page_store.Bitfiles.{Bitfile, Bitfiles}
use Rattle.plain_program.specs.fileset_values.Orders.{Name}
use Rattle.plain_program.specs.fileset_model.declared.fileset.FilesetSlot.{FilesetSlot}
use Rattle.plain_program.specs.fileset_model.declared.fileset.NumberSet.{NumberSet}
use Rattle.plain_program.specs.fileset_model.declared.fileset.Role.TheVariants.{CloneOf}
use Rattle.name_space.specs.Changes.{IsOriginal}
use Rattle.name_space.specs.Laws.{IsCloned, clone_of}
use Rattle.name_space.specs.Names.{number_of}

-- a file or directory without index pages
abbrev pub without_index : Bitfile → Bitfile
without_index file = record file { index = [] }

-- a view of a set hides what has one of these numbers, and shows all else, with or without indexes
pub record IsViewOf (out : NumberSet) (files view : Bitfiles) : Type 0 where
  pub hidden : (tag : Tag) → contains_key out (number_of tag) ≡ true → view tag ≡ None
  pub seen : (tag : Tag) → contains_key out (number_of tag) ≡ false
      → (view tag ≡ files tag) ⊎ (view tag ≡ option_map without_index (files tag))

-- a clone of a fileset in which these numbers are out of sync
abbrev pub clone_without : Name → NumberSet → FilesetSlot → FilesetSlot
clone_without name out slot = record (clone_of name slot) { role = CloneOf name out }

-- a view of an original's rows makes such a clone
abbrev pub ViewsHaveNames : Type 0
ViewsHaveNames = (files view : Bitfiles) (slot : FilesetSlot) (name : Name) (out : NumberSet)
    → IsOriginal files slot → IsViewOf out files view
    → IsCloned view (clone_without name out slot)
