use Rattle.std.proofs.Common.{◌+◌, ◌++◌, List, [], ◌∷◌, Option, Some, arith, subst, sym}
use Rattle.free_cells.specs.domain_base.declared.place.CellAt.{CellAt}
use Rattle.free_cells.specs.cell_records.declared.record.Record.{Record}
use Rattle.file_chains.proofs.Gathers.{Gathers, all_places, all_records, gather_begins, gather_on, gather_short, there}
use Rattle.file_chains.proofs.maps.read_maps.Goals as goal

pub loop-init : goal.loop-init
loop-init g c = λ cells is.
    let pages = g.M.MetaPages.pages c.args.pages.now in
    subst (λ (seen : List CellAt). Gathers pages 0 (Some c.args.start) cells seen c.new-2.result.items) (sym c.new.ensures.items)
    (subst (λ (rs : List Record). Gathers pages 0 (Some c.args.start) cells [] rs) (sym c.new-2.ensures.items) (gather_begins pages c.args.start cells is))

pub push_map-requires : goal.push_map-requires
push_map-requires g c =
    let pages = g.M.MetaPages.pages c.args.pages.now in
    let cells = c.requires.0 in
    let way = subst (λ (next : Option CellAt). Gathers pages c.loop.counter next cells c.loop.found.places.items c.loop.found.records.items) c.in-Some.is (c.loop.invariant cells c.requires.1) in
    let t = there pages c.loop.counter c.in-Some.at cells c.loop.found.places.items c.loop.found.records.items way in
    record { cell = t.c.cell; value = t.mapped.value; stands = t.stands; map = t.mapped.map }

pub loop-preserved : goal.loop-preserved
loop-preserved g c = λ cells is.
    let pages = g.M.MetaPages.pages c.args.pages.now in
    let way = subst (λ (next : Option CellAt). Gathers pages c.loop.counter next cells c.loop.found.places.items c.loop.found.records.items) c.in-Some.is (c.loop.invariant cells is) in
    let t = there pages c.loop.counter c.in-Some.at cells c.loop.found.places.items c.loop.found.records.items way in
    let on = gather_on pages c.loop.counter c.in-Some.at cells c.loop.found.places.items c.loop.found.records.items way c.next_cell-next.ensures.widths in
    subst (λ (next : Option CellAt). Gathers pages (c.loop.counter + 1) next cells c.push_map.new.found.places.items c.push_map.new.found.records.items) (sym (c.next_cell-next.ensures.next t.c.cell t.stands))
    (subst (λ (seen : List CellAt). Gathers pages (c.loop.counter + 1) t.c.cell.head.next cells seen c.push_map.new.found.records.items) (sym c.in_ok-push_map.ensures.places)
    (subst (λ (rs : List Record). Gathers pages (c.loop.counter + 1) t.c.cell.head.next cells (c.loop.found.places.items ++ c.in-Some.at ∷ []) rs) (sym (c.in_ok-push_map.ensures.records t.c.cell t.mapped.value t.stands t.mapped.map)) on))

pub returns-in_default-clause-places : goal.returns-in_default-clause-places
returns-in_default-clause-places g c = λ cells is.
    let pages = g.M.MetaPages.pages c.args.pages.now in
    all_places pages c.loop.counter cells c.loop.found.places.items c.loop.found.records.items
    (subst (λ (next : Option CellAt). Gathers pages c.loop.counter next cells c.loop.found.places.items c.loop.found.records.items) c.in_default.is (c.loop.invariant cells is))

pub returns-in_default-clause-records : goal.returns-in_default-clause-records
returns-in_default-clause-records g c = λ cells is.
    let pages = g.M.MetaPages.pages c.args.pages.now in
    all_records pages c.loop.counter cells c.loop.found.places.items c.loop.found.records.items
    (subst (λ (next : Option CellAt). Gathers pages c.loop.counter next cells c.loop.found.places.items c.loop.found.records.items) c.in_default.is (c.loop.invariant cells is))

pub returns-clause-places : goal.returns-clause-places
returns-clause-places g c = λ cells is.
    let pages = g.M.MetaPages.pages c.args.pages.now in
    absurd (omega (arith, gather_short pages c.loop.counter c.loop.next c.args.start cells c.loop.found.places.items c.loop.found.records.items is (c.loop.invariant cells is), c.loop-test.false))

pub returns-clause-records : goal.returns-clause-records
returns-clause-records g c = λ cells is.
    let pages = g.M.MetaPages.pages c.args.pages.now in
    absurd (omega (arith, gather_short pages c.loop.counter c.loop.next c.args.start cells c.loop.found.places.items c.loop.found.records.items is (c.loop.invariant cells is), c.loop-test.false))
