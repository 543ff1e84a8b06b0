use Rattle.std.proofs.Common.{Err, Ok, subst, sym}
use Rattle.fileset_files.specs.page_store.Pages.{Pages}
use Rattle.fileset_files.specs.page_store.declared.fault.StoreFault.{StoreFault}
use Rattle.file_release.specs.Sharing.{IsKnown, frozen_of}
use Rattle.file_release.proofs.Cursors.{goes_on}
use Rattle.file_release.proofs.Planned.{may_plan, planned}
use Rattle.file_release.proofs.releasing.release_at.Goals as goal

pub carry_out-requires-clause-planned : goal.carry_out-requires-clause-planned
carry_out-requires-clause-planned g c =
    let s = c.requires.sharing in
    let pages = g.M.MetaPages.pages c.args.pages.now in (
      c.args.from,
      s.0,
      s.1,
      planned c.args.from c.args.start.now c.args.reader.now c.in_ok-plan.plan c.args.stale.now c.args.space.now c.args.cells.now pages s.0 s.1 s.2
          (c.in_ok-plan.ensures s.0 s.1 (may_plan c.args.from c.args.start.now c.args.reader.now c.args.stale.now c.args.space.now c.args.cells.now pages s.0 s.1 s.2 s.3)),
    )

pub returns-in-Ok-clause-ok : goal.returns-in-Ok-clause-ok
returns-in-Ok-clause-ok g c = λ chain own sharing spot.
    let pages = g.M.MetaPages.pages c.args.pages.now in
    c.in-Ok.ensures.ok c.args.from chain own (planned c.args.from c.args.start.now c.args.reader.now c.in_ok-plan.plan c.args.stale.now c.args.space.now c.args.cells.now pages chain own sharing
    (c.in_ok-plan.ensures chain own (may_plan c.args.from c.args.start.now c.args.reader.now c.args.stale.now c.args.space.now c.args.cells.now pages chain own sharing spot)))

pub returns-in-Err-clause-full : goal.returns-in-Err-clause-full
returns-in-Err-clause-full g c = λ chain own sharing spot.
    let pages = g.M.MetaPages.pages c.args.pages.now in
    c.in-Err.ensures.full c.args.from chain own (planned c.args.from c.args.start.now c.args.reader.now c.in_ok-plan.plan c.args.stale.now c.args.space.now c.args.cells.now pages chain own sharing
    (c.in_ok-plan.ensures chain own (may_plan c.args.from c.args.start.now c.args.reader.now c.args.stale.now c.args.space.now c.args.cells.now pages chain own sharing spot)))

pub returns-in-Ok-clause-others : goal.returns-in-Ok-clause-others
returns-in-Ok-clause-others g c = λ chain own sharing spot.
    let pages = g.M.MetaPages.pages c.args.pages.now in
    c.in-Ok.ensures.others c.args.from chain own (planned c.args.from c.args.start.now c.args.reader.now c.in_ok-plan.plan c.args.stale.now c.args.space.now c.args.cells.now pages chain own sharing
    (c.in_ok-plan.ensures chain own (may_plan c.args.from c.args.start.now c.args.reader.now c.args.stale.now c.args.space.now c.args.cells.now pages chain own sharing spot)))

pub returns-in-Err-clause-others : goal.returns-in-Err-clause-others
returns-in-Err-clause-others g c = λ chain own sharing spot.
    let pages = g.M.MetaPages.pages c.args.pages.now in
    c.in-Err.ensures.others c.args.from chain own (planned c.args.from c.args.start.now c.args.reader.now c.in_ok-plan.plan c.args.stale.now c.args.space.now c.args.cells.now pages chain own sharing
    (c.in_ok-plan.ensures chain own (may_plan c.args.from c.args.start.now c.args.reader.now c.args.stale.now c.args.space.now c.args.cells.now pages chain own sharing spot)))

pub returns-in-Ok-clause-within : goal.returns-in-Ok-clause-within
returns-in-Ok-clause-within g c =
    let s = c.requires.sharing in
    let pages = g.M.MetaPages.pages c.args.pages.now in
    let may = may_plan c.args.from c.args.start.now c.args.reader.now c.args.stale.now c.args.space.now c.args.cells.now pages s.0 s.1 s.2 s.3 in
    let is = c.in_ok-plan.ensures s.0 s.1 may in
    goes_on {E = StoreFault} c.args.from (frozen_of c.args.reader.now) c.args.start.now pages (g.M.MetaPages.pages c.carry_out.new.pages) s.0 s.1 c.args.stale.now c.in_ok-plan.plan (Ok c.in-Ok.what) s.2.file is
    (c.in-Ok.ensures.stay c.args.from s.0 s.1 (planned c.args.from c.args.start.now c.args.reader.now c.in_ok-plan.plan c.args.stale.now c.args.space.now c.args.cells.now pages s.0 s.1 s.2 is)) tt

pub returns-in-Err-clause-within : goal.returns-in-Err-clause-within
returns-in-Err-clause-within g c =
    let s = c.requires.sharing in
    let pages = g.M.MetaPages.pages c.args.pages.now in
    let may = may_plan c.args.from c.args.start.now c.args.reader.now c.args.stale.now c.args.space.now c.args.cells.now pages s.0 s.1 s.2 s.3 in
    let is = c.in_ok-plan.ensures s.0 s.1 may in
    goes_on c.args.from (frozen_of c.args.reader.now) c.args.start.now pages (g.M.MetaPages.pages c.carry_out.new.pages) s.0 s.1 c.args.stale.now c.in_ok-plan.plan (Err c.in-Err.fault) s.2.file is tt c.in-Err.ensures.pages

pub returns-in-Ok-clause-known : goal.returns-in-Ok-clause-known
returns-in-Ok-clause-known g c =
    let s = c.requires.sharing in
    let pages = g.M.MetaPages.pages c.args.pages.now in
    let may = may_plan c.args.from c.args.start.now c.args.reader.now c.args.stale.now c.args.space.now c.args.cells.now pages s.0 s.1 s.2 s.3 in
    let is = c.in_ok-plan.ensures s.0 s.1 may in
    c.known_after.ensures pages (g.M.MetaPages.pages c.carry_out.new.pages) s.1 (subst (IsKnown pages) (sym c.take.ensures.value) c.requires.known) s.2.reads
    (c.in-Ok.ensures.reads c.args.from s.0 s.1 (planned c.args.from c.args.start.now c.args.reader.now c.in_ok-plan.plan c.args.stale.now c.args.space.now c.args.cells.now pages s.0 s.1 s.2 is)) is.read

pub returns-in-Err-clause-known : goal.returns-in-Err-clause-known
returns-in-Err-clause-known g c = subst (λ (pages : Pages). IsKnown pages c.args.known.now) (sym c.in-Err.ensures.pages) c.requires.known
