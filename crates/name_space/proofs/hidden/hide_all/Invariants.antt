use Rattle.std.proofs.Common.{◌<◌, ◌≡◌, ℕ, List, Some, slice_get}
use Rattle.directory_rows.specs.page_store.Bitfiles.{Bitfiles}
use Rattle.directory_rows.specs.declared.led.Led.{Led}
use Rattle.name_space.specs.Trees.{AreAllOf, HasItsPaths, IsHiding}
use Rattle.name_space.specs.declared.parts.TaggedNode.{TaggedNode}
use Rattle.name_space.proofs.hidden.hide_all.Given as goal

abbrev pub invariant-loop-one : goal.invariant-loop-one
invariant-loop-one l = (files : Bitfiles) (led : List Led) → AreAllOf files l.nodes led → IsHiding files l.nodes l.below 0 l.fn.tree
    → IsHiding files l.nodes l.below l.count l.tree
    × ((j : ℕ) (one : TaggedNode) → j < l.one-index → slice_get l.nodes j ≡ Some one → HasItsPaths files l.tree one)
