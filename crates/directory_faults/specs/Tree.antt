-- The tree of a fileset's directories.
use Rattle.std.specs.Prelude.{◌≡◌, ◌⊎◌, ◌↔◌, Bool, false, List, IsTrue, Contains}
use Rattle.fileset_shapes.specs.domain_base.declared.place.Tag.{Tag}
use Rattle.fileset_shapes.specs.name_space.Names.{root_tag}
use Rattle.directory_faults.specs.Parents.{HasTag}
use Rattle.directory_faults.specs.declared.rows.RowThere.{RowThere}
use Rattle.directory_faults.specs.declared.there.FileThere.{FileThere}
use Rattle.directory_faults.specs.Children.{AreChildren}
use Rattle.directory_faults.specs.Walk.{IsBelow}
use Rattle.directory_faults.specs.declared.tree.Tree.{Tree}

-- some files and directories have one at a tag
abbrev pub HasTagOf : List FileThere → Tag → Type 0
HasTagOf files tag = (file : FileThere) × Contains files file × (file.tag ≡ tag)

-- the root is there, and so are some tags
abbrev pub AreThere : List FileThere → (Tag → Type 0) → Type 0
AreThere files Are = HasTagOf files root_tag × ((tag : Tag) → Are tag → HasTagOf files tag)

-- what was read of files, directories and rows of an original or a clone
pub record IsTree (files : List FileThere) (rows : List RowThere) (is_clone : Bool) (tree : Tree)
    : Type 0 where
  pub children : AreChildren rows tree.children
  pub reached : (tag : Tag) → HasTag tree.reached tag ↔ IsBelow tree.children root_tag tag
  pub read : IsTrue tree.are_all_read
      ↔ ((is_clone ≡ false) ⊎ AreThere files (HasTag tree.reached))
