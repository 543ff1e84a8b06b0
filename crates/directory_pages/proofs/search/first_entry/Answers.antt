use Rattle.std.proofs.Common.{◌∙◌, sym, ap, subst}
use Rattle.directory_pages.specs.Entries.{Rise, first_from}
use Rattle.directory_pages.specs.Index.{all_entries, index_pages}
use Rattle.directory_pages.proofs.IndexParts.{first_found, rise_page, whole_index}
use Rattle.directory_pages.proofs.Removed.{count_is}
use Rattle.directory_pages.proofs.search.first_entry.Goals as goal

pub returns-in_err-number : goal.returns-in_err-number
returns-in_err-number g c =
    let files = g.S.BitfileSet.files c.args.set.now in
    let whole = whole_index (index_pages files c.args.dir) c.index_pages-pages.result (c.index_pages-pages.ensures ∙ count_is files c.args.dir) in
    c.from_residual.ensures ∙ sym c.in_err-number.ensures ∙ ap (λ pages. first_from c.args.key.now (all_entries pages)) whole

pub first_on-requires-clause-rise : goal.first_on-requires-clause-rise
first_on-requires-clause-rise g c =
    let has = c.in_ok-page.ensures in
    subst Rise (sym has.read) (rise_page (index_pages (g.S.BitfileSet.files c.args.set.now) c.args.dir) c.in_ok-number.number has.part c.requires.rise has.there)

pub returns : goal.returns
returns g c =
    let has = c.in_ok-page.ensures in
    c.first_on.ensures ∙ ap (first_from c.args.key.now) has.read
    ∙ first_found (index_pages (g.S.BitfileSet.files c.args.set.now) c.args.dir) c.args.key.now c.in_ok-number.number has.part has.there c.in_ok-number.ensures
