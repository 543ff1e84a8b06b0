use Rattle.std.proofs.Common.{◌≡◌, ◌∙◌, ◌^◌, ◌≤◌, [], List, ℕ, sym, ap, subst}
use Rattle.domain_layout.specs.disk_label.FirstPages.{first_pages}
use Rattle.domain_layout.specs.disk_label.declared.anchor.Member.{Member}
use Rattle.domain_layout.specs.Layout.{IsCellTable}
use Rattle.domain_layout.specs.Reached.{first_cells}
use Rattle.filesets_reading.specs.Good.{frame_at}
use Rattle.filesets_reading.proofs.CellTables.{CellWalk, comes_there, walk_begins, walk_ends, walk_on}
use Rattle.filesets_reading.proofs.cells.read_cell_table.Goals as goal

pub loop-init : goal.loop-init
loop-init g c =
    let pages = g.M.MetaPages.pages c.args.pages.now in
    let frame = frame_at c.args.anchor.now c.args.version in
    let first : first_cells frame c.args.vol ≡ c.first_page-page.result = ap (λ (m : Member). (first_pages c.args.version m.pages).cells) (sym c.member_of.ensures) ∙ sym c.first_page-page.ensures.page in
    subst (λ (t : List ℕ). CellWalk pages frame c.args.vol t c.first_page-page.result) (sym c.new-table.ensures.items)
    (subst (CellWalk pages frame c.args.vol []) first (walk_begins pages frame c.requires.good c.args.vol c.requires.member))

pub look_at_page-requires : goal.look_at_page-requires
look_at_page-requires g c =
    comes_there (g.M.MetaPages.pages c.args.pages.now) (frame_at c.args.anchor.now c.args.version) c.requires.good c.args.vol c.requires.member c.loop.table.items c.loop.page c.loop.invariant

pub returns-then-next-eq0-clause-small : goal.returns-then-next-eq0-clause-small
returns-then-next-eq0-clause-small g c = subst (λ (m : Member). m.pages ≤ 2 ^ 32) c.member_of.ensures c.first_page-page.ensures.small

pub returns-then-next-eq0-clause-table : goal.returns-then-next-eq0-clause-table
returns-then-next-eq0-clause-table g c =
    let pages = g.M.MetaPages.pages c.args.pages.now in
    let frame = frame_at c.args.anchor.now c.args.version in
    subst (IsCellTable pages c.args.vol (first_cells frame c.args.vol)) (sym c.in_ok-push.ensures.items)
    (walk_ends pages frame c.requires.good c.args.vol c.requires.member c.loop.table.items c.loop.page c.in_ok-next.next c.loop.invariant c.in_ok-next.ensures.decided c.in_ok-next.ensures.next
    c.if-next-eq0.true)

pub loop-preserved : goal.loop-preserved
loop-preserved g c =
    let pages = g.M.MetaPages.pages c.args.pages.now in
    let frame = frame_at c.args.anchor.now c.args.version in
    subst (λ (t : List ℕ). CellWalk pages frame c.args.vol t c.in_ok-next.next) (sym c.in_ok-push.ensures.items)
    (walk_on pages frame c.requires.good c.args.vol c.requires.member c.loop.table.items c.loop.page c.in_ok-next.next c.loop.invariant c.in_ok-next.ensures.decided c.in_ok-next.ensures.next
    c.if-next-eq0.false)
