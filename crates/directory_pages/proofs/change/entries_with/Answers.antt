use Rattle.std.proofs.Common.{◌∙◌, ◌++◌, ◌∷◌, length, take, drop, ap, subst, arith}
use Rattle.cell_records.specs.Fields.{number_at}
use Rattle.directory_pages.specs.Entries.{IsPlace}
use Rattle.directory_pages.specs.Index.{entries_of}
use Rattle.directory_pages.proofs.Added.{adds}
use Rattle.directory_pages.proofs.IndexParts.{entries_long}
use Rattle.directory_pages.proofs.change.entries_with.Goals as goal

pub returns-clause-adds : goal.returns-clause-adds
returns-clause-adds c =
    let key = c.args.key.now in
    let entries = entries_of c.args.page.now in
    let k = c.count_below-place.result in
    let same = c.as_slice.ensures.value ∙ c.in_ok-list.ensures in
    adds key entries c.insert.new.self.items k (subst (λ es. IsPlace key es k) same c.count_below-place.ensures) (c.in_ok-insert.ensures.items ∙ ap (λ xs. take k xs ++ key ∷ drop k xs) c.in_ok-list.ensures)

pub returns-clause-few : goal.returns-clause-few
returns-clause-few c =
    let page = c.args.page.now in
    omega (arith, c.in_ok-insert.ensures.len, ap length c.in_ok-list.ensures, entries_long page 0 (number_at 4 4 page), c.requires.count, c.insert.new.self.ok, c.in_ok-list.list.ok)
