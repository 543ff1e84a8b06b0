use Rattle.std.proofs.Common.{◌∙◌, ◌+◌, Option, arith, subst, sym}
use Rattle.free_cells.specs.domain_base.declared.place.CellAt.{CellAt}
use Rattle.file_chains.proofs.Walks.{IsOnWay, there, way_begins, way_ends, way_found, way_on, way_short}
use Rattle.file_chains.proofs.walking.find_place.Goals as goal

pub loop-init : goal.loop-init
loop-init g c = λ cells is. way_begins (g.M.MetaPages.pages c.args.pages.now) c.args.page c.args.start cells is

pub returns-in_default : goal.returns-in_default
returns-in_default g c = λ cells is.
    let pages = g.M.MetaPages.pages c.args.pages.now in
    sym (way_ends pages c.args.page c.loop.counter cells (subst (λ next. IsOnWay pages c.args.page c.loop.counter next cells) c.in_default.is (c.loop.invariant cells is)))

pub place_at-requires : goal.place_at-requires
place_at-requires g c =
    let pages = g.M.MetaPages.pages c.args.pages.now in
    let cells = c.requires.0 in
    let way = subst (λ (next : Option CellAt). IsOnWay pages c.args.page c.loop.counter next cells) c.in-Some.is (c.loop.invariant cells c.requires.1) in
    let t = there pages c.args.page c.loop.counter c.in-Some.at cells way in
    record { cell = t.c.cell; value = t.mapped.value; stands = t.stands; map = t.mapped.map }

pub returns-in_default-place_at : goal.returns-in_default-place_at
returns-in_default-place_at g c = λ cells is.
    let pages = g.M.MetaPages.pages c.args.pages.now in
    let way = subst (λ (next : Option CellAt). IsOnWay pages c.args.page c.loop.counter next cells) c.in-Some.is (c.loop.invariant cells is) in
    let t = there pages c.args.page c.loop.counter c.in-Some.at cells way in
    let says = c.place_at.ensures t.c.cell t.mapped.value t.stands t.mapped.map in
    says ∙ sym (way_found pages c.args.page c.loop.counter c.in-Some.at cells way (λ none. c.in_default-place_at.not-Absent (says ∙ none)))

pub loop-preserved : goal.loop-preserved
loop-preserved g c = λ cells is.
    let pages = g.M.MetaPages.pages c.args.pages.now in
    let way = subst (λ (next : Option CellAt). IsOnWay pages c.args.page c.loop.counter next cells) c.in-Some.is (c.loop.invariant cells is) in
    let t = there pages c.args.page c.loop.counter c.in-Some.at cells way in
    let says = c.place_at.ensures t.c.cell t.mapped.value t.stands t.mapped.map in
    subst (λ (next : Option CellAt). IsOnWay pages c.args.page (c.loop.counter + 1) next cells) (sym (c.next_cell-next.ensures.next t.c.cell t.stands))
    (way_on pages c.args.page c.loop.counter c.in-Some.at cells way c.next_cell-next.ensures.widths (sym says ∙ c.in-Absent.is))

pub returns : goal.returns
returns g c = λ cells is.
    let pages = g.M.MetaPages.pages c.args.pages.now in
    absurd (omega (arith, way_short pages c.args.page c.loop.counter c.loop.next c.args.start cells is (c.loop.invariant cells is), c.loop-test.false))
