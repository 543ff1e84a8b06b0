use Rattle.std.proofs.Common.{◌∙◌, sym, subst}
use Rattle.domain_layout.specs.page_store.Pages.{Pages, with_page}
use Rattle.domain_layout.specs.NewDomain.{IsNew, on_first}
use Rattle.domain_making.specs.Making.{new_frame}
use Rattle.domain_making.proofs.Brought.{all_new}
use Rattle.domain_making.proofs.pages.NewPages.bring_into.Goals as goal

pub returns-clause-new : goal.returns-clause-new
returns-clause-new g c =
    let pages = g.M.MetaPages.pages in
    let new = c.args.self.now in
    let firsts = c.of-firsts.ensures in
    let bitmaps = pages c.put_bitmap.new.store in
    let one = c.in_ok-put_on_first.ensures.put ∙ (λ i. with_page (on_first (firsts i).cells) (c.in_ok-copy.ensures.value i) bitmaps) in
    let all = c.in_ok-put_on_first-2.ensures.put ∙ (λ i. with_page (on_first (firsts i).table) (c.in_ok-copy-2.ensures.value i) (one i)) in
    subst (λ (p : Pages). IsNew p (new_frame c.args.version c.args.pages)) (sym all)
    (all_new c.args.version c.args.pages c.requires.room c.requires.most new c.requires.new bitmaps c.in_ok-put_bitmap.ensures.there)
