use Rattle.std.proofs.Common.{◌≡◌, ◌∙◌, ◌++◌, [], ◌∷◌, List, length, ap, arith, append_assoc}
use Rattle.page_faults.specs.directory_pages.Index.{entries_from}
use Rattle.page_faults.specs.directory_pages.declared.entry.IndexEntry.{IndexEntry}
use Rattle.page_faults.specs.domain_layout.DirectoryRules.{entries_in}
use Rattle.index_row_faults.specs.Entries.{placed}
use Rattle.index_row_faults.specs.declared.entries.EntryAt.{EntryAt}
use Rattle.index_row_faults.proofs.Read.{entries_whole, placed_more}
use Rattle.index_row_faults.proofs.entries.push_entries.Goals as goal

pub loop-number-preserved : goal.loop-number-preserved
loop-number-preserved c =
    let old = c.args.entries.now.items in
    let home = c.args.home.now in
    let page = c.args.page.now in
    let k = c.loop-number.number in
    let item : IndexEntry → EntryAt = λ e. record { home = home; entry = e } in
    c.in_ok-push.ensures.items ∙ (λ i. c.loop-number.invariant i ++ item (c.entry_at-entry.ensures i) ∷ [])
    ∙ append_assoc old (placed home (entries_from page 0 k)) _ ∙ ap (λ (l : List EntryAt). old ++ l) (placed_more home page k)

pub returns : goal.returns
returns c =
    let old = c.args.entries.now.items in
    let home = c.args.home.now in
    let page = c.args.page.now in
    let same : c.loop-number.number ≡ length (entries_in page) = omega (arith, c.loop-number-test.false, c.loop-number.auto.number-end, c.count_entries-number-end.ensures.count) in
    c.loop-number.invariant ∙ (λ i. old ++ placed home (entries_from page 0 (same i))) ∙ ap (λ (l : List IndexEntry). old ++ placed home l) (entries_whole page)
