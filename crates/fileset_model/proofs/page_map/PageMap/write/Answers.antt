use Rattle.std.proofs.Common.{ℕ, List, ◌∙◌, ap, length, map}
use Rattle.std.specs.FinMap.{from_sorted}
use Rattle.fileset_model.specs.Pages.{page_after, pages_of, with_pages, written}
use Rattle.fileset_model.proofs.PageLemmas.{put_each-with_pages}
use Rattle.fileset_model.proofs.page_map.PageMap.write.Goals as goal

pub returns-clause-ok : goal.returns-clause-ok
returns-clause-ok c =
    let here = c.self.inside.pages.items in
    let pages_of_write = pages_of c.args.offset (length c.args.bytes.now) in
    ap from_sorted c.in_ok-put_pages.ensures.ok
    ∙ put_each-with_pages c.in_ok-changed.changed.items here c.self.invariant
    ∙ ap (λ (changed : List (ℕ × List ℕ)). with_pages changed (from_sorted here)) c.in_ok-changed.ensures
    ∙ ap (λ (es : List (ℕ × List ℕ)). with_pages (map (λ q. (q, page_after (from_sorted es) c.args.offset c.args.bytes.now q)) pages_of_write) (from_sorted here)) c.deref.ensures.value
    ∙ ap (λ pages. written pages c.args.offset c.args.bytes.now) c.self.view_is
