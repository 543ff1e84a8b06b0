-- What becomes of a fileset in which one file changes, and no name.
use Rattle.std.specs.Prelude.{◌≡◌, false, IsSomeAnd, Some}
use Rattle.std.specs.Option.{option_and_then}
use Rattle.standing_laws.specs.domain_base.declared.place.Tag.{Tag}
use Rattle.standing_laws.specs.page_store.Bitfiles.{same_tag}
use Rattle.standing_laws.specs.fileset_files.Files.{Chains}
use Rattle.standing_laws.specs.legal_histories.Valid.{HasWholePages}
use Rattle.standing_laws.specs.fileset_model.declared.node.Node.{Node}
use Rattle.standing_laws.specs.name_space.Laws.{IsLike}
use Rattle.standing_laws.specs.domain_layout.Filled.{Contents, IsFilled}
use Rattle.standing_laws.specs.domain_layout.Seen.{SeenFile, seen_in}
use Rattle.standing_laws.specs.domain_layout.Agreeing.{AgreeOnFile}

-- a change of a node that leaves its kind and its owner, and all that a page asks
pub record KeepsKind (change : Node → Node) : Type 0 where
  pub like : (node : Node) → IsLike (change node) node
  pub whole : (node : Node) → HasWholePages node → HasWholePages (change node)

-- what each other tag names is what it named, with the bytes that it had; and what the tag names is
-- what the change makes of the node that it was
pub record FileFollows (tag : Tag) (change : Node → Node) (contents now : Contents)
    (chains chains_now : Chains) : Type 0 where
  pub others : (t : Tag) (seen : SeenFile) → same_tag t tag ≡ false
      → option_and_then seen_in (chains_now t) ≡ Some seen
      → (option_and_then seen_in (chains t) ≡ Some seen) × AgreeOnFile contents now seen
  pub own : (seen : SeenFile) → option_and_then seen_in (chains_now tag) ≡ Some seen
      → IsSomeAnd (option_and_then seen_in (chains tag))
      (λ was. (node : Node) → IsFilled contents was node → IsFilled now seen (change node))
