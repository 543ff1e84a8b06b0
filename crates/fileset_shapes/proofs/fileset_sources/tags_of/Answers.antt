use Rattle.std.proofs.Common.{sym, subst}
use Rattle.std.specs.Prelude.{IfOk}
use Rattle.fileset_shapes.specs.Sources.{HasTag}
use Rattle.fileset_shapes.specs.Tags.{ListsOnce}
use Rattle.fileset_shapes.specs.declared.fileset_sources.FilesetSource.{FilesetSource}
use Rattle.fileset_shapes.proofs.fileset_sources.tags_of.Goals as goal

pub returns-in-Clone : goal.returns-in-Clone
returns-in-Clone g c =
    subst (λ (s : FilesetSource). IfOk c.tags_of_both.result (λ tags. ListsOnce (HasTag (g.M.MetaPages.pages c.args.pages.now) s) tags.items)) (sym c.in-Clone.is) c.tags_of_both.ensures
