use Rattle.std.proofs.Common.{◌∙◌, ◌+◌, ◌-◌, ◌/◌, ◌<◌, ◌≤◌, Some, sym, ap, arith}
use Rattle.std.specs.Option.{unwrap_or}
use Rattle.directory_pages.specs.Entries.{is_below}
use Rattle.directory_pages.specs.Index.{entry_at}
use Rattle.directory_pages.proofs.Orders.{some_or}
use Rattle.directory_pages.proofs.IndexParts.{entries_halved, entries_skipped}
use Rattle.directory_pages.proofs.index_page.+first_among.Goals as goal

pub returns-then-is_below : goal.returns-then-is_below
returns-then-is_below t c =
    let page = c.args.page.now in
    let key = c.args.key.now in
    let middle = c.args.low + (c.args.high - c.args.low) / 2 in
    let above : c.args.low ≤ middle = omega arith in
    let below : middle < c.args.high = omega arith in
    c.first_among.ensures
    ∙ sym (entries_skipped page key c.args.low middle c.args.high above below c.requires.within c.requires.rise
    (ap (λ e. is_below e key) (sym c.read_entry-entry.ensures) ∙ sym c.is_below.ensures ∙ c.if-is_below.true))

pub returns : goal.returns
returns t c =
    let page = c.args.page.now in
    let key = c.args.key.now in
    let middle = c.args.low + (c.args.high - c.args.low) / 2 in
    let above : c.args.low ≤ middle = omega arith in
    let below : middle < c.args.high = omega arith in
    let entry = c.read_entry-entry.ensures in
    ap Some c.unwrap_or.ensures ∙ (λ i. Some (unwrap_or (c.first_among-2.ensures i) (entry i))) ∙ some_or _ (entry_at page middle)
    ∙ sym (entries_halved page key c.args.low middle c.args.high above below c.requires.within c.requires.rise
    (ap (λ e. is_below e key) (sym entry) ∙ sym c.is_below.ensures ∙ c.if-is_below.false))
