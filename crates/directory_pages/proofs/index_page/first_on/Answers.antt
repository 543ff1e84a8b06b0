use Rattle.std.proofs.Common.{◌∙◌, ◌-◌, ap, arith}
use Rattle.std.proofs.lemmas.List.{take_all}
use Rattle.cell_records.specs.Fields.{number_at}
use Rattle.directory_pages.specs.Entries.{first_from}
use Rattle.directory_pages.specs.Index.{entries_of}
use Rattle.directory_pages.proofs.IndexParts.{entries_long}
use Rattle.directory_pages.proofs.index_page.first_on.Goals as goal

pub returns : goal.returns
returns c =
    let page = c.args.page.now in
    let entries = entries_of page in
    let count = c.count_entries.result in
    let all = take_all (count - 0) entries (omega (arith, entries_long page 0 (number_at 4 4 page), c.count_entries.ensures.count)) in
    c.first_among.ensures ∙ ap (first_from c.args.key.now) all
