use Rattle.std.proofs.Common.{◌≡◌, ◌∙◌, ◌+◌, ◌≤◌, ℕ, Option, ap, arith, inr, refl, subst, sym, ⊎_elim}
use Rattle.std.proofs.lemmas.Bool.{cases_lt}
use Rattle.release_list.specs.declared.cursor.Cursor.{Cursor}
use Rattle.release_list.specs.Cursors.{IsOfEntry}
use Rattle.release_list.specs.Listing.{IsEmpty, Roomy}
use Rattle.release_list.specs.Steps.{now_of}
use Rattle.file_release.specs.page_store.Pages.{Pages}
use Rattle.file_release.specs.file_chains.MapChanges.{ChangesAtMost}
use Rattle.file_release.proofs.OfFileChains.FewPages.{at_most, none_changes}
use Rattle.release_list.proofs.FewSteps.{at_most_five, call_changes}
use Rattle.release_list.proofs.Loops.{leads_more, leads_none, stops}
use Rattle.release_list.proofs.list.Queue.release_some.Goals as goal

pub loop-init : goal.loop-init
loop-init g c = (
  (λ files well. leads_none c.args.group c.args.version c.args.self.now.list files c.args.space.now c.args.cells.now (g.M.MetaPages.pages c.args.pages.now) well),
  refl,
  (λ zero. refl),
  (λ zero. (refl, refl, refl)),
  (λ less empty. omega (arith, less)),
  omega arith,
  refl,
  none_changes 0 (g.M.MetaPages.pages c.args.pages.now) (g.M.MetaPages.pages c.args.pages.now) refl,
  omega arith,
  omega arith,
  c.requires.ahead,
  c.requires.known,
  (λ zero. refl),
  (λ some. absurd (omega (arith, some))),
  (λ zero. refl),
  omega arith,
)

pub release_one-requires : goal.release_one-requires
release_one-requires g c =
    let w = c.requires.well in
    let leads = c.loop.invariant.0 w.0 w.1 in
    record { well = (leads.files, leads.well); ahead = c.loop.invariant.10; known = c.loop.invariant.11 }

pub returns-in-Err-2-clause-ok : goal.returns-in-Err-2-clause-ok
returns-in-Err-2-clause-ok g c = λ files well.
    let leads = c.loop.invariant.0 files well in
    let e = c.in-Err.ensures in
    let some : 1 ≤ c.loop.count = omega (arith, c.if-count-eq0.false) in
    inr
    (stops c.args.group c.args.version (now_of c.args.self.now.list files c.args.space.now c.args.cells.now (g.M.MetaPages.pages c.args.pages.now)) c.loop.count c.loop.self.list c.release_one.new.self.list c.loop.space c.release_one.new.space c.loop.cells c.release_one.new.cells (g.M.MetaPages.pages c.loop.pages) (g.M.MetaPages.pages c.release_one.new.pages) c.in-Err.fault
    (ap (λ (q : Roomy). q.list) e.list) e.cells e.pages leads some e.err (e.full leads.files leads.well))

pub loop-preserved : goal.loop-preserved
loop-preserved g c =
    let e = c.in-Ok-true.ensures in (
      (λ files well.
          let leads = c.loop.invariant.0 files well in
          leads_more c.args.group c.args.version (now_of c.args.self.now.list files c.args.space.now c.args.cells.now (g.M.MetaPages.pages c.args.pages.now)) c.loop.count c.loop.self.list c.release_one.new.self.list c.loop.space c.release_one.new.space c.loop.cells c.release_one.new.cells (g.M.MetaPages.pages c.loop.pages) (g.M.MetaPages.pages c.release_one.new.pages)
          leads (e.ok leads.files leads.well c.in-Ok-true.field-0-test)),
      ap (λ (n : ℕ). n + 1) c.loop.invariant.1,
      (λ zero. absurd (omega (arith, zero))),
      (λ zero. absurd (omega (arith, zero))),
      (λ some empty. ⊎_elim
          (λ less. let had : 1 ≤ c.loop.count = omega (arith, less) in c.loop.invariant.4 had empty)
          (λ not_less. let zero : c.loop.count ≡ 0 = omega (arith, not_less) in e.there c.in-Ok-true.field-0-test (subst IsEmpty (sym (ap (λ (q : Roomy). q.list) (c.loop.invariant.2 zero))) empty))
          (cases_lt 0 c.loop.count)),
      omega (arith, e.room, c.loop.invariant.5),
      e.before ∙ c.loop.invariant.6,
      subst (λ (n : ℕ). ChangesAtMost (c.loop.changed + n) (g.M.MetaPages.pages c.args.pages.now) (g.M.MetaPages.pages c.release_one.new.pages)) (sym c.step_pages-changed.ensures)
          (let w = c.requires.well in
          let leads = c.loop.invariant.0 w.0 w.1 in
          call_changes c.args.group c.args.version c.loop.self.list c.release_one.new.self.list leads.files c.loop.space c.release_one.new.space c.loop.cells c.release_one.new.cells (g.M.MetaPages.pages c.args.pages.now) (g.M.MetaPages.pages c.loop.pages) (g.M.MetaPages.pages c.release_one.new.pages)
          c.loop.changed (e.ok leads.files leads.well c.in-Ok-true.field-0-test) c.loop.invariant.7),
      omega (arith, c.if-most-changed.false),
      (let five = at_most_five c.loop.self.list in omega (arith, c.loop.invariant.9, c.step_pages-changed.ensures, five)),
      e.ahead,
      e.known,
      (λ zero. absurd (omega (arith, zero))),
      (λ some. e.on),
      (λ zero. absurd (omega (arith, zero))),
      omega (arith, e.list_room, c.loop.invariant.15),
    )

pub returns-in-Ok-false-clause-few : goal.returns-in-Ok-false-clause-few
returns-in-Ok-false-clause-few g c =
    subst (λ (pages : Pages). ChangesAtMost c.args.most (g.M.MetaPages.pages c.args.pages.now) pages) (sym (c.in-Ok-false.ensures.nothing c.in-Ok-false.field-0-test).4)
    (at_most c.loop.changed c.args.most (g.M.MetaPages.pages c.args.pages.now) (g.M.MetaPages.pages c.loop.pages) c.loop.invariant.8 c.loop.invariant.7)

pub returns-in-Err-2-clause-few : goal.returns-in-Err-2-clause-few
returns-in-Err-2-clause-few g c =
    subst (λ (pages : Pages). ChangesAtMost c.args.most (g.M.MetaPages.pages c.args.pages.now) pages) (sym c.in-Err.ensures.pages)
    (at_most c.loop.changed c.args.most (g.M.MetaPages.pages c.args.pages.now) (g.M.MetaPages.pages c.loop.pages) c.loop.invariant.8 c.loop.invariant.7)

pub returns-clause-few : goal.returns-clause-few
returns-clause-few g c =
    at_most c.loop.changed c.args.most (g.M.MetaPages.pages c.args.pages.now) (g.M.MetaPages.pages c.loop.pages) c.loop.invariant.8 c.loop.invariant.7

pub returns-in-Err-clause-empty : goal.returns-in-Err-clause-empty
returns-in-Err-clause-empty g c = λ empty.
    absurd (c.in-Err.ensures.listed (subst IsEmpty (sym (ap (λ (q : Roomy). q.list) (c.loop.invariant.2 c.if-count-eq0.true))) empty))

pub returns-in-Err-2-clause-on : goal.returns-in-Err-2-clause-on
returns-in-Err-2-clause-on g c =
    let e = c.in-Err.ensures in
    let some : 1 ≤ c.loop.count = omega (arith, c.if-count-eq0.false) in
    subst (λ (q : Roomy). IsOfEntry q.list.entries c.release_one.new.cursor) (sym e.list)
    (subst (λ (o : Option Cursor). IsOfEntry c.loop.self.list.entries o) (sym e.place) (c.loop.invariant.13 some))

pub returns-then-most-changed-clause-on : goal.returns-then-most-changed-clause-on
returns-then-most-changed-clause-on g c =
    let five = at_most_five c.loop.self.list in
    c.loop.invariant.13 (omega (arith, c.loop.invariant.1, c.loop.invariant.9, c.step_pages-changed.ensures, five, c.if-most-changed.true))

pub returns-clause-on : goal.returns-clause-on
returns-clause-on g c = c.loop.invariant.13 (omega (arith, c.loop.invariant.1, c.loop.auto.counter-end, c.loop-test.false))
