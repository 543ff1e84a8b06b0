use Rattle.std.proofs.Common.{◌∙◌, ◌++◌, suc, length, take, drop, ap, subst, arith, length-append, length-drop, length-take}
use Rattle.cell_records.specs.Fields.{number_at}
use Rattle.directory_pages.specs.Entries.{IsPlace}
use Rattle.directory_pages.specs.Index.{entries_of}
use Rattle.directory_pages.proofs.IndexParts.{entries_long}
use Rattle.directory_pages.proofs.Removed.{cuts, place_inside}
use Rattle.directory_pages.proofs.change.entries_without.Goals as goal

pub remove-requires : goal.remove-requires
remove-requires c =
    let entries = entries_of c.args.page.now in
    let k = c.count_below-place.result in
    let same = c.as_slice.ensures.value ∙ c.in_ok-list.ensures in
    let inside = place_inside c.args.key.now entries k (subst (λ es. IsPlace c.args.key.now es k) same c.count_below-place.ensures) c.requires.there in
    omega (arith, inside, ap length same, c.as_slice.ensures.len)

pub returns-clause-cut : goal.returns-clause-cut
returns-clause-cut c =
    let key = c.args.key.now in
    let entries = entries_of c.args.page.now in
    let k = c.count_below-place.result in
    let same = c.as_slice.ensures.value ∙ c.in_ok-list.ensures in
    let place = subst (λ es. IsPlace key es k) same c.count_below-place.ensures in
    let inside = place_inside key entries k place c.requires.there in
    cuts key entries c.remove.new.self.items k place inside (c.remove.ensures.items ∙ ap (λ xs. take k xs ++ drop (suc k) xs) c.in_ok-list.ensures)

pub returns-clause-few : goal.returns-clause-few
returns-clause-few c =
    let page = c.args.page.now in
    let list = c.in_ok-list.list.items in
    let k = c.count_below-place.result in
    omega (arith, ap length c.remove.ensures.items, length-append (take k list) (drop (suc k) list), length-take k list, length-drop (suc k) list, ap length c.in_ok-list.ensures, entries_long page 0 (number_at 4 4 page), c.requires.page.count)
