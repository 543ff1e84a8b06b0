use Rattle.fileset_shapes.specs.Tags.{IsUsedOnFirst, ListsOnce}
use Rattle.fileset_shapes.proofs.tags.used_tags.Given as goal

abbrev pub invariant-loop-number : goal.invariant-loop-number
invariant-loop-number g l = ListsOnce (IsUsedOnFirst (g.M.MetaPages.pages l.pages) l.dir l.number) l.tags.items
