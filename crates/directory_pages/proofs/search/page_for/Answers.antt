use Rattle.std.proofs.Common.{◌∙◌, ◌-◌, sym, ap, arith}
use Rattle.directory_pages.specs.Entries.{first_from}
use Rattle.directory_pages.specs.Index.{all_entries, index_pages}
use Rattle.directory_pages.proofs.Added.{for_first, for_last}
use Rattle.directory_pages.proofs.IndexParts.{whole_index}
use Rattle.directory_pages.proofs.Removed.{count_is}
use Rattle.directory_pages.proofs.search.page_for.Goals as goal

pub overflow_sub-result : goal.overflow_sub-result
overflow_sub-result g c = omega (arith, c.requires.some, count_is (g.S.BitfileSet.files c.args.set.now) c.args.dir, c.index_pages-pages.ensures)

pub returns-in-Some : goal.returns-in-Some
returns-in-Some g c = for_first c.args.key.now (index_pages (g.S.BitfileSet.files c.args.set.now) c.args.dir) c.in-Some.number c.in-Some.ensures

pub returns-in-None : goal.returns-in-None
returns-in-None g c =
    let files = g.S.BitfileSet.files c.args.set.now in
    let pages = c.index_pages-pages.result in
    let long = c.index_pages-pages.ensures ∙ count_is files c.args.dir in
    for_last c.args.key.now (index_pages files c.args.dir) (pages - 1) (omega (arith, long, c.requires.some)) (ap (λ ps. first_from c.args.key.now (all_entries ps)) (sym (whole_index (index_pages files c.args.dir) pages long)) ∙ c.in-None.ensures)
