use Rattle.std.proofs.Common.{◌∙◌, ◌++◌, ◌∷◌, [], Option, IfNone, IfSome, map, ap, subst, arith}
use Rattle.std.proofs.lemmas.List.{map-append}
use Rattle.release_list.specs.domain_base.declared.place.CellAt.{CellAt}
use Rattle.release_list.specs.metadata_cells.declared.used.UsedCell.{UsedCell}
use Rattle.release_list.specs.metadata_cells.Cell.{Cell}
use Rattle.release_list.specs.metadata_cells.Chain.{StandsAt}
use Rattle.quota_book.specs.QuotaCells.{Said, said_by}
use Rattle.release_steps.specs.QuotaChain.{there_of}
use Rattle.release_steps.proofs.ReadCells.{IsRead, here, read_more, read_short}
use Rattle.release_steps.proofs.reading.read_cells.Goals as goal

pub returns-in_default-2 : goal.returns-in_default-2
returns-in_default-2 g c = λ chain is.
    let pages = g.M.MetaPages.pages c.args.pages.now in
    let at = c.in-Some.at in
    let found = map there_of c.loop.found.items in
    let way = subst (λ (next : Option CellAt). IsRead pages c.loop.counter next found chain) c.in-Some.is (c.loop.invariant chain is) in
    let h = here pages c.loop.counter at found chain way in
    absurd ((subst (λ o. IfNone o ((cell : Cell) → ¬ StandsAt pages at cell)) c.in_default-2.is c.in_ok-used.ensures.none) h.c.cell h.stands)

pub loop-preserved : goal.loop-preserved
loop-preserved g c = λ chain is.
    let pages = g.M.MetaPages.pages c.args.pages.now in
    let at = c.in-Some.at in
    let found = map there_of c.loop.found.items in
    let way = subst (λ (next : Option CellAt). IsRead pages c.loop.counter next found chain) c.in-Some.is (c.loop.invariant chain is) in
    let h = here pages c.loop.counter at found chain way in
    let head = c.in-Some-2.used.head in
    let records = c.in-Some-2.used.records in
    let stands : StandsAt pages at (record { head = head; records = records })
    = subst (λ o. IfSome o (λ (used : UsedCell). StandsAt pages at (record { head = used.head; records = used.records }))) c.in-Some-2.is c.in_ok-used.ensures.some in
    read_more pages c.loop.counter at found chain way c.next_cell-next.ensures.widths head records stands (map there_of c.push.new.self.items)
    (ap (map there_of) c.in_ok-push.ensures.items ∙ map-append there_of c.loop.found.items _
    ∙ ap (λ (said : Said). found ++ (record { at = at; head = head; said = said }) ∷ []) (c.in_ok-said.ensures.value ∙ ap said_by c.as_slice.ensures))
    c.next_cell-next.result (c.next_cell-next.ensures.next h.c.cell h.stands)

pub returns : goal.returns
returns g c = λ chain is.
    let pages = g.M.MetaPages.pages c.args.pages.now in
    absurd (omega (arith, read_short pages c.loop.counter c.loop.next (map there_of c.loop.found.items) c.args.first chain is (c.loop.invariant chain is), c.loop-test.false))
