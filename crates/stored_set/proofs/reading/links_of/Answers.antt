use Rattle.std.proofs.Common.{◌∙◌, Option, ap, sym}
use Rattle.std.specs.Option.{option_map_or}
use Rattle.index_pages.specs.fileset_files.declared.attributes.Attributes.{Attributes}
use Rattle.stored_set.proofs.Told.{links_told}
use Rattle.stored_set.proofs.reading.links_of.Goals as goal

pub returns-in-Some : goal.returns-in-Some
returns-in-Some g c = λ set was.
    ap (λ (o : Option Attributes). option_map_or (λ (what : Attributes). what.links) o 0) (sym c.in-Some.is ∙ c.attributes.ensures was.chains was.stands.together.files)
    ∙ sym (links_told c.args.files.now.fileset c.args.files.now.tags c.args.space.now c.args.cells.now (g.M.MetaPages.pages c.args.pages.now) was.chains was.indexes set was.stands c.args.tag)

pub returns-in-None : goal.returns-in-None
returns-in-None g c = λ set was.
    ap (λ (o : Option Attributes). option_map_or (λ (what : Attributes). what.links) o 0) (sym c.in-None.is ∙ c.attributes.ensures was.chains was.stands.together.files)
    ∙ sym (links_told c.args.files.now.fileset c.args.files.now.tags c.args.space.now c.args.cells.now (g.M.MetaPages.pages c.args.pages.now) was.chains was.indexes set was.stands c.args.tag)
