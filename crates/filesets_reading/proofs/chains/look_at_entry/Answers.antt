use Rattle.std.proofs.Common.{◌≡◌, ◌∙◌, ◌+◌, ◌*◌, None, Some, sym, ap, arith}
use Rattle.std.specs.Option.{option_copied}
use Rattle.domain_layout.specs.cell_records.Fields.{number_at}
use Rattle.filesets_reading.specs.Chains.{HasLinks, HasLinksAt}
use Rattle.filesets_reading.proofs.EntryLinks.{at_ok, entry_links}
use Rattle.filesets_reading.proofs.chains.look_at_entry.Goals as goal

pub look_at_chain-requires : goal.look_at_chain-requires
look_at_chain-requires g c = λ broken. c.requires.unbroken _ c.in-Some-look.at broken (sym c.look.ensures ∙ c.in-Some-look.is)

pub returns-in-Some-look : goal.returns-in-Some-look
returns-in-Some-look g c =
    let pages = g.M.MetaPages.pages c.args.pages.now in
    let there : pages c.args.place.now.home ≡ Some c.in-Some.page.now = sym c.get.ensures ∙ ap option_copied c.in-Some.is in
    at_ok c.look_at_chain.result (HasLinks pages c.in-Some-look.at) (HasLinksAt pages c.args.dir.now (1022 * c.args.place.now.index + c.args.entry))
    (λ links. entry_links pages c.args.dir.now c.requires.directory c.requires.place.0 c.args.place.now c.requires.place.1 c.args.entry c.requires.entry c.in-Some.page.now there
    _ (omega arith) (c.u16_at.ensures ∙ ap (number_at 2 (16 + 8 * c.args.entry)) c.bytes.ensures.value) (Some c.in-Some-look.at) (sym c.in-Some-look.is ∙ c.look.ensures) links)
    c.look_at_chain.ensures

pub returns-in-None : goal.returns-in-None
returns-in-None g c =
    let pages = g.M.MetaPages.pages c.args.pages.now in
    let there : pages c.args.place.now.home ≡ Some c.in-Some.page.now = sym c.get.ensures ∙ ap option_copied c.in-Some.is in
    entry_links pages c.args.dir.now c.requires.directory c.requires.place.0 c.args.place.now c.requires.place.1 c.args.entry c.requires.entry c.in-Some.page.now there
    _ (omega arith) (c.u16_at.ensures ∙ ap (number_at 2 (16 + 8 * c.args.entry)) c.bytes.ensures.value) None (sym c.in-None.is ∙ c.look.ensures) tt
