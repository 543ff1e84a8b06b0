use Rattle.std.proofs.Common.{List, subst, sym}
use Rattle.tag_dirs.specs.declared.dir.TagPlace.{TagPlace}
use Rattle.fileset_files.specs.Together.{AreTogether}
use Rattle.fileset_files.proofs.creating.create_file.Goals as goal

pub returns-in-Ok-clause-ok : goal.returns-in-Ok-clause-ok
returns-in-Ok-clause-ok g c = λ chains are.
    c.in-Ok.ensures.ok chains (subst (λ (places : List TagPlace). AreTogether c.args.fileset places c.args.space.now c.args.cells.now (g.M.MetaPages.pages c.args.pages.now) chains) (sym c.in-Some.ensures.same) are)
