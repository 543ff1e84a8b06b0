use Rattle.std.proofs.Common.{◌∙◌, IfOk, List, sym, subst}
use Rattle.filesets_reading.specs.tag_dirs.declared.dir.TagPlace.{TagPlace}
use Rattle.filesets_reading.specs.fileset_files.Files.{AreFiles}
use Rattle.filesets_reading.specs.Seen.{IsSeenThere}
use Rattle.fileset_shapes.proofs.OwnFiles.{through_there}
use Rattle.fileset_shapes.proofs.clones.read_through.Goals as goal

pub returns-in-Some-first_record-clause-seen : goal.returns-in-Some-first_record-clause-seen
returns-in-Some-first_record-clause-seen g c = λ chains are.
    let pages = g.M.MetaPages.pages c.args.pages.now in
    let fileset = c.args.original.now.files.fileset in
    let again = subst (λ (ps : List TagPlace). AreFiles fileset ps pages chains) (sym c.requires.same) are in
    subst (λ o. IfOk c.read_original.result (IsSeenThere o))
    (through_there pages fileset c.args.original.now.tags chains are c.args.number c.args.tag c.in-Some.at c.in-Some-first_record.value (sym c.look.ensures ∙ c.in-Some.is)
    (λ cells is. sym c.in-Some-first_record.is ∙ c.first_record.ensures cells is) (sym c.is_in_sync.ensures ∙ c.if-is_in_sync.true))
    (c.read_original.ensures.seen chains again)
