use Rattle.directory_rows.specs.page_store.Bitfiles.{Bitfiles}
use Rattle.name_space.specs.Trees.{AreAllOf}
use Rattle.name_space.proofs.Grown.{IsGrown}
use Rattle.name_space.proofs.tree.make_tree.Given as goal

abbrev pub invariant-loop-one : goal.invariant-loop-one
invariant-loop-one l = (files : Bitfiles) → AreAllOf files l.nodes l.led → IsGrown files l.nodes l.led l.one-index l.tree
