use Rattle.std.proofs.Common.{◌≡◌, ◌∙◌, ◌+◌, ◌*◌, Some, sym, ap, arith}
use Rattle.std.specs.Option.{option_copied}
use Rattle.filesets_reading.specs.cell_records.Fields.{number_at}
use Rattle.fileset_shapes.proofs.UsedTags.{unused_slot}
use Rattle.fileset_shapes.proofs.tags.tag_at.Goals as goal

pub returns-in-None-clause-none : goal.returns-in-None-clause-none
returns-in-None-clause-none g c =
    let pages = g.M.MetaPages.pages c.args.pages.now in
    let there : pages c.args.place.now.home ≡ Some c.in-Some.page.now = sym c.get.ensures ∙ ap option_copied c.in-Some.is in
    unused_slot pages c.args.dir.now c.requires.directory c.requires.place.0 c.args.place.now c.requires.place.1 c.args.entry c.requires.entry c.in-Some.page.now there
    _ (omega arith) (c.u16_at.ensures ∙ ap (number_at 2 (16 + 8 * c.args.entry)) c.bytes.ensures.value) (sym c.look.ensures ∙ c.in-None.is)
