use Rattle.std.proofs.Common.{◌≡◌, ◌∙◌, ◌<◌, ◌≤◌, List, Some, None, length, sym, ap, subst}
use Rattle.std.specs.Option.{option_copied}
use Rattle.page_ways.specs.Frame.{frame_in}
use Rattle.cell_faults.specs.declared.tables.CellsPage.{CellsPage}
use Rattle.cell_faults.proofs.WrongCell.{moved}
use Rattle.page_ways.proofs.OfSortedSets.Items.{item_of}
use Rattle.cell_faults.proofs.OnPages.{agrees, all_links, page_more}
use Rattle.cell_faults.proofs.chain_reading.read_links.Goals as goal

some_none : {X : Type 0} (x : X) → None ≡ Some x → ⊥
some_none x e = cc

pub unreachable-requires : goal.unreachable-requires
unreachable-requires g c =
    let items = c.args.tables.now.read.items in
    let page = c.page-item.result in
    let item = item_of items c.deref-page-items.result.now c.loop-page.page-index page c.deref-page-items.ensures.value c.loop-page-test.true c.page-item.is in
    let within : c.loop-page.page-index < length items = subst (λ (l : List CellsPage). c.loop-page.page-index < length l) c.deref-page-items.ensures.value c.loop-page-test.true in
    let there = (c.requires.each page).0 (c.loop-page.page-index, within, item page) in
    some_none there.0 (sym (ap option_copied c.in_default.is) ∙ c.get.ensures ∙ there.1.read.there)

pub insert_links-requires : goal.insert_links-requires
insert_links-requires g c =
    let pages = g.M.MetaPages.pages c.args.pages.now in
    let frame = frame_in c.args.frame.now in
    let items = c.args.tables.now.read.items in
    let page = c.page-item.result in
    let item = item_of items c.deref-page-items.result.now c.loop-page.page-index page c.deref-page-items.ensures.value c.loop-page-test.true c.page-item.is in
    let within : c.loop-page.page-index < length items = subst (λ (l : List CellsPage). c.loop-page.page-index < length l) c.deref-page-items.ensures.value c.loop-page-test.true in
    let there = (c.requires.each page).0 (c.loop-page.page-index, within, item page) in
    let is = moved pages frame page.home page.place there.0 c.in-Some.bytes.now there.1 (sym c.get.ensures ∙ ap option_copied c.in-Some.is) in
    agrees pages frame items c.loop-page.links c.loop-page.links c.loop-page.page-index page c.in-Some.bytes.now c.loop-page.invariant is item

pub loop-page-preserved : goal.loop-page-preserved
loop-page-preserved g c =
    let pages = g.M.MetaPages.pages c.args.pages.now in
    let frame = frame_in c.args.frame.now in
    let items = c.args.tables.now.read.items in
    let page = c.page-item.result in
    let item = item_of items c.deref-page-items.result.now c.loop-page.page-index page c.deref-page-items.ensures.value c.loop-page-test.true c.page-item.is in
    let within : c.loop-page.page-index < length items = subst (λ (l : List CellsPage). c.loop-page.page-index < length l) c.deref-page-items.ensures.value c.loop-page-test.true in
    let there = (c.requires.each page).0 (c.loop-page.page-index, within, item page) in
    let is = moved pages frame page.home page.place there.0 c.in-Some.bytes.now there.1 (sym c.get.ensures ∙ ap option_copied c.in-Some.is) in
    page_more pages frame items c.loop-page.links c.insert_links.new.links c.loop-page.page-index page c.in-Some.bytes.now c.loop-page.invariant is item c.in_ok-insert_links.ensures

pub returns : goal.returns
returns g c =
    let pages = g.M.MetaPages.pages c.args.pages.now in
    let whole : length c.args.tables.now.read.items ≤ c.loop-page.page-index = subst (λ (l : List CellsPage). length l ≤ c.loop-page.page-index) c.deref-page-items.ensures.value c.loop-page-test.false in
    all_links pages (frame_in c.args.frame.now) c.args.tables.now.read.items c.args.tables.now.unread.items c.requires c.loop-page.links c.loop-page.page-index whole c.loop-page.invariant
