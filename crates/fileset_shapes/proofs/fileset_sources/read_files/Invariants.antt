use Rattle.fileset_shapes.specs.Sources.{ReadsAt}
use Rattle.fileset_shapes.proofs.TaggedFiles.{AreRead}
use Rattle.fileset_shapes.proofs.fileset_sources.read_files.Given as goal

abbrev pub invariant-loop-i : goal.invariant-loop-i
invariant-loop-i g l = AreRead (ReadsAt (g.M.MetaPages.pages l.pages) l.source) l.tags.items l.i l.files.items
