use Rattle.fileset_shapes.specs.Tags.{ListsOnce}
use Rattle.fileset_shapes.proofs.UsedTags.{IsUsedIn}
use Rattle.fileset_shapes.proofs.fileset_sources.tags_of_both.Given as goal

abbrev pub invariant-loop-i : goal.invariant-loop-i
invariant-loop-i g l = ListsOnce (IsUsedIn (g.M.MetaPages.pages l.pages) l.own l.more.items l.i) l.tags.items
