use Rattle.std.proofs.Common.{◌∙◌, ap, sym}
use Rattle.std.specs.Option.{option_map}
use Rattle.index_pages.specs.fileset_files.declared.attributes.Attributes.{Attributes}
use Rattle.stored_set.proofs.Told.{kind_told}
use Rattle.stored_set.proofs.reading.kind_of.Goals as goal

pub returns-in-Some : goal.returns-in-Some
returns-in-Some g c = λ set was.
    ap (option_map (λ (what : Attributes). what.kind)) (sym c.in-Some.is ∙ c.attributes.ensures was.chains was.stands.together.files)
    ∙ sym (kind_told c.args.files.now.fileset c.args.files.now.tags c.args.space.now c.args.cells.now (g.M.MetaPages.pages c.args.pages.now) was.chains was.indexes set was.stands c.args.tag)

pub returns-in-None : goal.returns-in-None
returns-in-None g c = λ set was.
    ap (option_map (λ (what : Attributes). what.kind)) (sym c.in-None.is ∙ c.attributes.ensures was.chains was.stands.together.files)
    ∙ sym (kind_told c.args.files.now.fileset c.args.files.now.tags c.args.space.now c.args.cells.now (g.M.MetaPages.pages c.args.pages.now) was.chains was.indexes set was.stands c.args.tag)
