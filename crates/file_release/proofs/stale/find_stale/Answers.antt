use Rattle.std.proofs.Common.{◌≡◌, ◌+◌, ℕ, Bool, List, Option, None, Some, arith, refl, subst, sym}
use Rattle.std.proofs.lemmas.Bool.{both_ways}
use Rattle.fileset_files.specs.domain_base.declared.place.CellAt.{CellAt}
use Rattle.fileset_files.specs.page_store.Pages.{Pages}
use Rattle.fileset_files.specs.metadata_cells.Cell.{Cell}
use Rattle.fileset_files.specs.metadata_cells.Chain.{PlacedCell, StandsAt}
use Rattle.fileset_files.specs.file_chains.Files.{IsFile}
use Rattle.file_release.specs.Sharing.{IsWithin}
use Rattle.fileset_files.specs.extent_records.Writing.{places_in}
use Rattle.file_release.specs.Steps.{IsStale}
use Rattle.file_release.proofs.Found.{IsOnWay, split_file, there, way_begins, way_goes_on, way_found, way_on, way_short}
use Rattle.file_release.proofs.stale.find_stale.Goals as goal

way_at : (pages : Pages) (from : ℕ) (start : CellAt) (cursor next : Option CellAt) (chain : List PlacedCell) → IsFile pages start chain → IsWithin pages start cursor
    → (cursor ≡ None → next ≡ Some start) → ((at : CellAt) (cell : Cell) → cursor ≡ Some at → StandsAt pages at cell → next ≡ cell.head.next) → IsOnWay pages from 0 cursor cursor next chain
way_at pages from start None next chain is within first behind = subst (λ (n : Option CellAt). IsOnWay pages from 0 None None n chain) (sym (first refl)) (way_begins pages from start chain is)
way_at pages from start (Some at) next chain is within first behind =
    let s = split_file pages start at chain is (within chain is) in
    subst (λ (n : Option CellAt). IsOnWay pages from 0 (Some at) (Some at) n chain) (sym (behind at s.c.cell refl s.stands)) (way_goes_on pages from start at chain is s)

pub loop-init : goal.loop-init
loop-init g c = λ chain is. way_at (g.M.MetaPages.pages c.args.pages.now) c.args.from c.args.start.now c.args.cursor.now c.cell_behind-next.result chain is c.requires.within c.cell_behind-next.ensures.first c.cell_behind-next.ensures.next

pub returns-then-branch-clause-some : goal.returns-then-branch-clause-some
returns-then-branch-clause-some g c = λ chain is.
    let pages = g.M.MetaPages.pages c.args.pages.now in
    let way = subst (λ (next : Option CellAt). IsOnWay pages c.args.from c.loop.counter c.args.cursor.now c.loop.before next chain) c.in-Some.is (c.loop.invariant chain is) in
    let t = there pages c.args.from c.loop.counter c.args.cursor.now c.loop.before c.in-Some.at chain way in
    let said = c.in_ok-is_stale.ensures t.c.cell t.mapped.value t.stands t.mapped.map in
    way_found pages c.args.from c.loop.counter c.args.cursor.now c.loop.before c.in-Some.at chain way (record { before = c.loop.before; at = c.in-Some.at }) refl refl
    (subst (λ (b : Bool). IsStale c.args.from b (places_in t.mapped.value)) c.is_some.ensures (said.0 c.if-branch.true))

pub loop-preserved : goal.loop-preserved
loop-preserved g c = λ chain is.
    let pages = g.M.MetaPages.pages c.args.pages.now in
    let way = subst (λ (next : Option CellAt). IsOnWay pages c.args.from c.loop.counter c.args.cursor.now c.loop.before next chain) c.in-Some.is (c.loop.invariant chain is) in
    let t = there pages c.args.from c.loop.counter c.args.cursor.now c.loop.before c.in-Some.at chain way in
    let said = c.in_ok-is_stale.ensures t.c.cell t.mapped.value t.stands t.mapped.map in
    subst (λ (next : Option CellAt). IsOnWay pages c.args.from (c.loop.counter + 1) c.args.cursor.now (Some c.in-Some.at) next chain) (sym (c.next_cell-next.ensures.next t.c.cell t.stands))
    (way_on pages c.args.from c.loop.counter c.args.cursor.now c.loop.before c.in-Some.at chain way c.next_cell-next.ensures.widths
    (λ stale. both_ways c.in_ok-is_stale.field-0 c.if-branch.false (said.1 (subst (λ (b : Bool). IsStale c.args.from b (places_in t.mapped.value)) (sym c.is_some.ensures) stale))))

pub returns-clause-none : goal.returns-clause-none
returns-clause-none g c = λ none chain is.
    let pages = g.M.MetaPages.pages c.args.pages.now in
    absurd (omega (arith, way_short pages c.args.from c.loop.counter c.args.cursor.now c.loop.before c.loop.next c.args.start.now chain is (c.loop.invariant chain is), c.loop-test.false))
