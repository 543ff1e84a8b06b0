-- What calls on names leave of the files of a fileset, and what they add.
use Rattle.std.specs.Prelude.{◌≡◌, ◌⊎◌, ℕ, false, None, Some}
use Rattle.std.specs.Option.{option_and_then}
use Rattle.std.specs.FinMap.{empty, get}
use Rattle.standing_laws.specs.page_store.Bitfiles.{Bitfiles}
use Rattle.standing_laws.specs.fileset_files.Files.{Chains}
use Rattle.standing_laws.specs.fileset_model.Fileset.{Fileset}
use Rattle.standing_laws.specs.fileset_values.declared.command.Owner.{Owner}
use Rattle.standing_laws.specs.fileset_model.declared.fileset.Limits.{Limits}
use Rattle.standing_laws.specs.fileset_model.declared.node.Node.{Node}
use Rattle.standing_laws.specs.fileset_model.declared.node.Node.TheVariants.{Directory, File}
use Rattle.standing_laws.specs.domain_layout.Seen.{seen_in}
use Rattle.standing_laws.specs.domain_layout.Shape.{FilesetShape}

-- a file without a byte, or a directory
abbrev pub IsNewNode : Node → Type 0
IsNewNode (File uid gid size logged pages) = (size ≡ 0) × (logged ≡ false) × (pages ≡ empty)
IsNewNode (Directory uid gid) = Unit {0}

-- each file and directory is what it was, or is a new one under a number that none had; and owners
-- have the limits that they had
pub record NodesFollow (tree now : Fileset) : Type 0 where
  pub nodes : (number : ℕ) (node : Node) → get now.nodes number ≡ Some node
      → (get tree.nodes number ≡ Some node) ⊎ ((get tree.nodes number ≡ None) × IsNewNode node)
  pub limits : now.limits ≡ tree.limits

-- the shape of an original with these files, shown as this set, whose owners have these limits
abbrev pub named_shape : Chains → Bitfiles → (Owner → Limits) → FilesetShape
named_shape chains shown limits = record {
  original = None;
  files = λ tag. option_and_then seen_in (chains tag);
  shown = shown;
  limits = limits;
}
