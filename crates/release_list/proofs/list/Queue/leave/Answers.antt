use Rattle.std.proofs.Common.{◌≡◌, ◌∙◌, ◌++◌, ◌∷◌, ◌-◌, [], List, None, ap, arith, get_or, length, slice_set, sym}
use Rattle.release_list.specs.declared.list.Entry.{Entry}
use Rattle.release_list.specs.Listing.{Listing, Roomy}
use Rattle.release_list.specs.Steps.{list_after}
use Rattle.release_list.proofs.Lists.{get_last, longer, set_last}
use Rattle.release_list.proofs.list.Queue.leave.Goals as goal

abbrev alone : Entry → Entry
alone entry = record entry { clone = None }

abbrev listing : Listing → List Entry → Listing
listing list entries = record { entries = entries; tag_pages = list.tag_pages }

pub returns-in-Reading-clause-list : goal.returns-in-Reading-clause-list
returns-in-Reading-clause-list c = λ front entry last.
    let items = c.self.inside.entries.items in
    let is : items ≡ front ++ entry ∷ [] = ap (λ (q : Roomy). q.list.entries) c.self.view_is ∙ last in
    let n : c.len-last.result - 1 ≡ length front = omega (arith, c.len-last.ensures, c.self.inside.entries.ok.0, ap length is, longer front entry) in
    let item = c.index_mut.result.now in
    let was : item ≡ entry = c.index_mut.ensures.value ∙ (λ i. get_or (is i) (n i) item) ∙ get_last front entry item in
    (λ i. record { entries = slice_set (is i) (n i) (alone (was i)); tag_pages = c.self.inside.tag_pages.items })
    ∙ ap (λ (es : List Entry). record { entries = es; tag_pages = c.self.inside.tag_pages.items }) (set_last front entry (alone entry))
    ∙ ap (λ (q : Roomy). listing q.list (front ++ alone entry ∷ [])) c.self.view_is
    ∙ ap (λ w. list_after w front entry c.args.self.now.list) (sym c.in-Reading.is)
