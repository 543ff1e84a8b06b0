use Rattle.fileset_shapes.specs.Tags.{IsUsedOnFirstEntries, ListsOnce}
use Rattle.fileset_shapes.proofs.tags.push_tags.Given as goal

abbrev pub invariant-loop-entry : goal.invariant-loop-entry
invariant-loop-entry g l = ListsOnce (IsUsedOnFirstEntries (g.M.MetaPages.pages l.pages) l.dir l.number l.place l.entry) l.tags.items
