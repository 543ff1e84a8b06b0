use Rattle.std.proofs.Common.{◌∙◌, sym, subst, arith}
use Rattle.directory_pages.specs.declared.row.Row.{Row}
use Rattle.directory_pages.specs.RowPage.{rows_of}
use Rattle.directory_pages.proofs.PageParts.{small}
use Rattle.directory_pages.proofs.Places.{Passed, ends_within, no_place, not_looked, passed_more, place}
use Rattle.directory_pages.proofs.page.place_of.Goals as goal

pub loop-row-init : goal.loop-row-init
loop-row-init c =
    let name = c.args.name.now in
    let rows = rows_of c.args.page.now in
    let all = sym (c.into_iter-row-iterator.ensures.into_iter_gives ∙ c.new-row-items.ensures) in
    record { can = tt; finite = tt; passed = subst (λ left. Passed name rows 16 left) all (not_looked name rows) }

pub returns-then-eq-clause-some : goal.returns-then-eq-clause-some
returns-then-eq-clause-some c =
    let row : Row = record { tag = c.in-Some.row.tag; kind = c.in-Some.row.kind; name = c.in-Some.row.name.now } in
    place c.args.name.now (rows_of c.args.page.now) c.loop-row.start row c.loop-row.row-iterator c.next.new.self c.loop-row.invariant.passed c.in-Some.ensures.steps (sym c.eq.ensures ∙ c.if-eq.true)

pub overflow_add-start : goal.overflow_add-start
overflow_add-start c =
    let row : Row = record { tag = c.in-Some.row.tag; kind = c.in-Some.row.kind; name = c.in-Some.row.name.now } in
    omega (arith, small c.args.page.now (rows_of c.args.page.now) c.requires, ends_within c.args.name.now (rows_of c.args.page.now) c.loop-row.start row c.loop-row.row-iterator c.next.new.self c.loop-row.invariant.passed c.in-Some.ensures.steps)

pub loop-row-preserved : goal.loop-row-preserved
loop-row-preserved c =
    let row : Row = record { tag = c.in-Some.row.tag; kind = c.in-Some.row.kind; name = c.in-Some.row.name.now } in
    record {
      can = tt;
      finite = tt;
      passed = passed_more c.args.name.now (rows_of c.args.page.now) c.loop-row.start row c.loop-row.row-iterator c.next.new.self c.loop-row.invariant.passed c.in-Some.ensures.steps (sym c.eq.ensures ∙ c.if-eq.false);
    }

pub returns-clause-none : goal.returns-clause-none
returns-clause-none c = no_place c.args.name.now (rows_of c.args.page.now) c.loop-row.start c.loop-row.row-iterator c.loop-row.invariant.passed c.in-None.ensures.steps.0
