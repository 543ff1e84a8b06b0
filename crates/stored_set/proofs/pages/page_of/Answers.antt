use Rattle.std.proofs.Common.{◌∙◌, ap, sym}
use Rattle.std.specs.Option.{option_and_then, option_copied}
use Rattle.stored_set.proofs.Live.{page_shown}
use Rattle.stored_set.proofs.pages.page_of.Goals as goal

pub returns-in_err-home : goal.returns-in_err-home
returns-in_err-home g c = λ set was.
    let pages = g.M.MetaPages.pages c.args.pages.now in
    ap option_copied c.from_residual.ensures
    ∙ sym (page_shown c.args.files.now.fileset c.args.files.now.tags c.args.space.now c.args.cells.now pages set was c.args.tag (c.requires.directory set was) c.args.page c.page_home.result (c.page_home.ensures was.chains was.stands.together.files)
    ∙ ap (option_and_then pages) (sym c.home.ensures ∙ c.in_err-home.was))

pub returns : goal.returns
returns g c = λ set was.
    let pages = g.M.MetaPages.pages c.args.pages.now in
    c.get.ensures
    ∙ sym (page_shown c.args.files.now.fileset c.args.files.now.tags c.args.space.now c.args.cells.now pages set was c.args.tag (c.requires.directory set was) c.args.page c.page_home.result (c.page_home.ensures was.chains was.stands.together.files)
    ∙ ap (option_and_then pages) (sym c.home.ensures ∙ c.in_ok-home.was))
