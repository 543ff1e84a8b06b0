use Rattle.std.proofs.Common.{◌≡◌, ◌∙◌, Some, ap, sym}
use Rattle.std.specs.Option.{option_copied}
use Rattle.stored_set.proofs.Entries.{entries_there, page_stands_there}
use Rattle.stored_set.proofs.indexes.entries_at.Goals as goal

pub returns-in-Some-get : goal.returns-in-Some-get
returns-in-Some-get g c = λ homes are.
    let pages = g.M.MetaPages.pages c.args.pages.now in
    c.entries_on.ensures.value
    ∙ sym (entries_there pages (Some c.args.first.now) homes c.args.number c.in-Some.home c.in-Some-get.page.now are (sym (c.index_home.ensures homes are) ∙ c.in-Some.is) (sym c.get.ensures ∙ ap option_copied c.in-Some-get.is))

pub returns-in-None : goal.returns-in-None
returns-in-None g c = λ homes are.
    let pages = g.M.MetaPages.pages c.args.pages.now in
    absurd (page_stands_there pages (Some c.args.first.now) homes c.args.number c.in-Some.home are (sym (c.index_home.ensures homes are) ∙ c.in-Some.is) (sym c.get.ensures ∙ ap option_copied c.in-None.is))
