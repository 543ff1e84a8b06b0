use Rattle.std.proofs.Common.{◌≡◌, ◌/◌, ◌∙◌, sym, Some, IsSomeAnd, subst, ap}
use Rattle.std.specs.Option.{option_copied}
use Rattle.tag_dirs.specs.TagPage.{IsTagPage, index_of}
use Rattle.tag_dirs.specs.Directory.{home_with}
use Rattle.tag_dirs.proofs.Slots.{page_there}
use Rattle.tag_dirs.proofs.dir.TagDir.entry_at.Goals as goal

pub read_entry-requires-clause-good : goal.read_entry-requires-clause-good
read_entry-requires-clause-good g c =
    let pages = g.M.MetaPages.pages c.args.pages.now in
    let home = c.in_ok-home_of.field-0 in
    let index = c.args.slot / 1022 in
    let at : home_with c.args.self.now index ≡ Some home = sym c.home_of.ensures ∙ c.in_ok-home_of.was in
    let there : pages home ≡ Some c.in_ok-page.page.now = sym c.get.ensures ∙ ap option_copied c.in_ok-page.was in
    (subst (λ o. IsSomeAnd o (λ page. IsTagPage page × (index_of page ≡ index))) there (page_there pages c.args.self.now index home c.requires at)).0
