use Rattle.std.proofs.Common.{inl, inr, refl, sym, subst, ⊎_elim}
use Rattle.cell_faults.specs.page_ways.Frame.{frame_in}
use Rattle.cell_faults.proofs.OfSortedSets.Items.{item_of}
use Rattle.cell_faults.proofs.OfSortedSets.Below.{below_all, below_more, none_below}
use Rattle.tag_faults.specs.Entries.{AreEntries}
use Rattle.tag_faults.specs.Unnamed.{LeadsToFirst}
use Rattle.tag_faults.specs.declared.named.NamedCell.{NamedCell}
use Rattle.tag_faults.proofs.Alone.{named_all}
use Rattle.tag_faults.proofs.unnamed.named_cells.Goals as goal

pub loop-entry-init : goal.loop-entry-init
loop-entry-init g c at = (
  λ is. absurd (c.new-named.ensures at is),
  λ below. absurd (none_below {X = NamedCell} c.deref-entry-items.result.now (LeadsToFirst (g.M.MetaPages.pages c.args.pages.now) (frame_in c.args.frame.now) at) below),
)

pub loop-entry-preserved : goal.loop-entry-preserved
loop-entry-preserved g c at =
    let pages = g.M.MetaPages.pages c.args.pages.now in
    let frame = frame_in c.args.frame.now in
    let items = c.deref-entry-items.result.now in
    let number = c.loop-entry.entry-index in
    let item = c.entry-item.result in
    let more = below_more {X = NamedCell} items (LeadsToFirst pages frame at) number item (item_of items items number item refl c.loop-entry-test.true c.entry-item.is) in
    let put = c.in_ok-insert_named.ensures at in
    let before = c.loop-entry.invariant at in (
      λ is. more.0 (⊎_elim (λ was. inl (before.0 was)) (λ here. inr here) (put.0 is)),
      λ below. put.1 (⊎_elim (λ low. inl (before.1 low)) (λ here. inr here) (more.1 below)),
    )

pub returns : goal.returns
returns g c at =
    let pages = g.M.MetaPages.pages c.args.pages.now in
    let frame = frame_in c.args.frame.now in
    let items = c.deref-entry-items.result.now in
    let number = c.loop-entry.entry-index in
    let all = below_all {X = NamedCell} items (LeadsToFirst pages frame at) number c.loop-entry-test.false c.loop-entry.auto.entry-index-end in
    let wrong = named_all pages frame c.args.table.now items (subst (AreEntries pages frame c.args.table.now) (sym c.deref-entry-items.ensures.value) c.in_ok-entries.ensures) at in
    let are = c.loop-entry.invariant at in
    ((λ is. wrong.0 (all.0 (are.0 is))), (λ fault. are.1 (all.1 (wrong.1 fault))))
