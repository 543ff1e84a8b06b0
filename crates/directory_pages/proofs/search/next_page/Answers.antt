use Rattle.std.proofs.Common.{◌∙◌, IfNone, sym, subst}
use Rattle.directory_pages.specs.Entries.{HasNext}
use Rattle.directory_pages.specs.Index.{all_entries, index_pages}
use Rattle.directory_pages.proofs.Orders.{none_next, other_next, some_next}
use Rattle.directory_pages.proofs.search.next_page.Goals as goal

pub returns-in_err-entry-clause-none : goal.returns-in_err-entry-clause-none
returns-in_err-entry-clause-none g c =
    let files = g.S.BitfileSet.files c.args.set.now in
    subst (λ o. IfNone o (¬ HasNext c.args.hash c.args.from (all_entries (index_pages files c.args.dir)))) (sym c.from_residual.ensures)
    (none_next c.args.hash c.args.from (all_entries (index_pages files c.args.dir)) (sym c.first_entry.ensures ∙ c.in_err-entry.was))

pub returns-then-entry-hash-clause-some : goal.returns-then-entry-hash-clause-some
returns-then-entry-hash-clause-some g c =
    let files = g.S.BitfileSet.files c.args.set.now in
    some_next c.args.hash c.args.from (all_entries (index_pages files c.args.dir)) c.in_ok-entry.entry c.requires.rise (sym c.first_entry.ensures ∙ c.in_ok-entry.was) c.if-entry-hash.true

pub returns-else-entry-hash-clause-none : goal.returns-else-entry-hash-clause-none
returns-else-entry-hash-clause-none g c =
    let files = g.S.BitfileSet.files c.args.set.now in
    other_next c.args.hash c.args.from (all_entries (index_pages files c.args.dir)) c.in_ok-entry.entry c.requires.rise (sym c.first_entry.ensures ∙ c.in_ok-entry.was) c.if-entry-hash.false
