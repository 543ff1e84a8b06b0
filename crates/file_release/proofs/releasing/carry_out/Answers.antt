use Rattle.std.proofs.Common.{subst, sym}
use Rattle.file_release.specs.declared.released.Released.{Released}
use Rattle.file_release.specs.Releases.{Releases}
use Rattle.file_release.proofs.Done.{allocated_new, elsewhere, keeps, may_free, not_free, others, own_stays, place, releases, writes_well}
use Rattle.file_release.proofs.releasing.carry_out.Goals as goal

pub returns-in-Err-clause-full : goal.returns-in-Err-clause-full
returns-in-Err-clause-full g c = λ from chain own is. c.in-Err.ensures.full from c.args.start.now chain own is

pub write_edit-requires-clause-place : goal.write_edit-requires-clause-place
write_edit-requires-clause-place g c = let p = c.requires.planned in place p.0 c.args.start.now c.args.reader.now c.args.plan.now c.args.space.now c.args.cells.now (g.M.MetaPages.pages c.args.pages.now) p.1 p.2 p.3 c.use_of-kind.result c.args.group c.args.version c.pass_on.new.space c.pass_on.new.cells (g.M.MetaPages.pages c.pass_on.new.pages) (c.in-Ok.ensures.ok p.0 c.args.start.now p.1 p.2 p.3) c.in-Ok.ensures.allocated

pub write_edit-requires-clause-next : goal.write_edit-requires-clause-next
write_edit-requires-clause-next g c = let p = c.requires.planned in (writes_well p.0 c.args.start.now c.args.reader.now c.args.plan.now c.args.space.now c.args.cells.now (g.M.MetaPages.pages c.args.pages.now) p.1 p.2 p.3 c.use_of-kind.result c.args.group c.args.version c.pass_on.new.space c.pass_on.new.cells (g.M.MetaPages.pages c.pass_on.new.pages) (c.in-Ok.ensures.ok p.0 c.args.start.now p.1 p.2 p.3) c.in-Ok.ensures.allocated).next

pub write_edit-requires-clause-good : goal.write_edit-requires-clause-good
write_edit-requires-clause-good g c = let p = c.requires.planned in (writes_well p.0 c.args.start.now c.args.reader.now c.args.plan.now c.args.space.now c.args.cells.now (g.M.MetaPages.pages c.args.pages.now) p.1 p.2 p.3 c.use_of-kind.result c.args.group c.args.version c.pass_on.new.space c.pass_on.new.cells (g.M.MetaPages.pages c.pass_on.new.pages) (c.in-Ok.ensures.ok p.0 c.args.start.now p.1 p.2 p.3) c.in-Ok.ensures.allocated).good

pub write_edit-requires-clause-fits : goal.write_edit-requires-clause-fits
write_edit-requires-clause-fits g c = let p = c.requires.planned in (writes_well p.0 c.args.start.now c.args.reader.now c.args.plan.now c.args.space.now c.args.cells.now (g.M.MetaPages.pages c.args.pages.now) p.1 p.2 p.3 c.use_of-kind.result c.args.group c.args.version c.pass_on.new.space c.pass_on.new.cells (g.M.MetaPages.pages c.pass_on.new.pages) (c.in-Ok.ensures.ok p.0 c.args.start.now p.1 p.2 p.3) c.in-Ok.ensures.allocated).fits

pub write_edit-requires-clause-used : goal.write_edit-requires-clause-used
write_edit-requires-clause-used g c = let p = c.requires.planned in not_free p.0 c.args.start.now c.args.reader.now c.args.plan.now c.args.space.now c.args.cells.now (g.M.MetaPages.pages c.args.pages.now) p.1 p.2 p.3 c.use_of-kind.result c.args.group c.args.version c.pass_on.new.space c.pass_on.new.cells (g.M.MetaPages.pages c.pass_on.new.pages) (c.in-Ok.ensures.ok p.0 c.args.start.now p.1 p.2 p.3) c.in-Ok.ensures.allocated

pub write_edit-requires-clause-freed : goal.write_edit-requires-clause-freed
write_edit-requires-clause-freed g c = let p = c.requires.planned in may_free p.0 c.args.start.now c.args.reader.now c.args.plan.now c.args.space.now c.args.cells.now (g.M.MetaPages.pages c.args.pages.now) p.1 p.2 p.3 c.use_of-kind.result c.args.group c.args.version c.pass_on.new.space c.pass_on.new.cells (g.M.MetaPages.pages c.pass_on.new.pages) (c.in-Ok.ensures.ok p.0 c.args.start.now p.1 p.2 p.3) c.in-Ok.ensures.allocated

pub returns-in-Ok-clause-ok : goal.returns-in-Ok-clause-ok
returns-in-Ok-clause-ok g c = λ from chain own is.
    subst (λ (what : Released). Releases from c.args.start.now c.args.reader.now c.args.group c.args.version chain own c.args.space.now c.pass_on.new.space c.args.cells.now c.write_edit.new.cells (g.M.MetaPages.pages c.args.pages.now) (g.M.MetaPages.pages c.write_edit.new.pages) what) (sym c.what_went.ensures)
    (releases from c.args.start.now c.args.reader.now c.args.plan.now c.args.space.now c.args.cells.now (g.M.MetaPages.pages c.args.pages.now) chain own is c.use_of-kind.result c.args.group c.args.version c.pass_on.new.space c.pass_on.new.cells (g.M.MetaPages.pages c.pass_on.new.pages) (c.in-Ok.ensures.ok from c.args.start.now chain own is) c.in-Ok.ensures.allocated c.write_edit.new.cells (g.M.MetaPages.pages c.write_edit.new.pages) c.write_edit.ensures.writes c.write_edit.ensures.belong (c.use_of-kind.ensures chain is.sharing.file))

pub returns-in-Ok-clause-others : goal.returns-in-Ok-clause-others
returns-in-Ok-clause-others g c = λ from chain own is. others from c.args.start.now c.args.reader.now c.args.plan.now c.args.space.now c.args.cells.now (g.M.MetaPages.pages c.args.pages.now) chain own is c.use_of-kind.result c.args.group c.args.version c.pass_on.new.space c.pass_on.new.cells (g.M.MetaPages.pages c.pass_on.new.pages) (c.in-Ok.ensures.ok from c.args.start.now chain own is) c.in-Ok.ensures.allocated c.write_edit.new.cells (g.M.MetaPages.pages c.write_edit.new.pages) c.write_edit.ensures.writes c.write_edit.ensures.belong

pub returns-in-Ok-clause-elsewhere : goal.returns-in-Ok-clause-elsewhere
returns-in-Ok-clause-elsewhere g c = let p = c.requires.planned in elsewhere p.0 c.args.start.now c.args.reader.now c.args.plan.now c.args.space.now c.args.cells.now (g.M.MetaPages.pages c.args.pages.now) p.1 p.2 p.3 c.use_of-kind.result c.args.group c.args.version c.pass_on.new.space c.pass_on.new.cells (g.M.MetaPages.pages c.pass_on.new.pages) (c.in-Ok.ensures.ok p.0 c.args.start.now p.1 p.2 p.3) c.in-Ok.ensures.allocated c.write_edit.new.cells (g.M.MetaPages.pages c.write_edit.new.pages) c.write_edit.ensures.writes c.write_edit.ensures.belong

pub returns-in-Ok-clause-allocated : goal.returns-in-Ok-clause-allocated
returns-in-Ok-clause-allocated g c = let p = c.requires.planned in allocated_new p.0 c.args.start.now c.args.reader.now c.args.plan.now c.args.space.now c.args.cells.now (g.M.MetaPages.pages c.args.pages.now) p.1 p.2 p.3 c.use_of-kind.result c.args.group c.args.version c.pass_on.new.space c.pass_on.new.cells (g.M.MetaPages.pages c.pass_on.new.pages) (c.in-Ok.ensures.ok p.0 c.args.start.now p.1 p.2 p.3) c.in-Ok.ensures.allocated c.write_edit.new.cells (g.M.MetaPages.pages c.write_edit.new.pages) c.write_edit.ensures.writes c.write_edit.ensures.belong

pub returns-in-Ok-clause-stay : goal.returns-in-Ok-clause-stay
returns-in-Ok-clause-stay g c = λ from chain own is. keeps from c.args.start.now c.args.reader.now c.args.plan.now c.args.space.now c.args.cells.now (g.M.MetaPages.pages c.args.pages.now) chain own is c.use_of-kind.result c.args.group c.args.version c.pass_on.new.space c.pass_on.new.cells (g.M.MetaPages.pages c.pass_on.new.pages) (c.in-Ok.ensures.ok from c.args.start.now chain own is) c.in-Ok.ensures.allocated c.write_edit.new.cells (g.M.MetaPages.pages c.write_edit.new.pages) c.write_edit.ensures.writes c.write_edit.ensures.belong

pub returns-in-Ok-clause-reads : goal.returns-in-Ok-clause-reads
returns-in-Ok-clause-reads g c = λ from chain own is. own_stays from c.args.start.now c.args.reader.now c.args.plan.now c.args.space.now c.args.cells.now (g.M.MetaPages.pages c.args.pages.now) chain own is c.use_of-kind.result c.args.group c.args.version c.pass_on.new.space c.pass_on.new.cells (g.M.MetaPages.pages c.pass_on.new.pages) (c.in-Ok.ensures.ok from c.args.start.now chain own is) c.in-Ok.ensures.allocated c.write_edit.new.cells (g.M.MetaPages.pages c.write_edit.new.pages) c.write_edit.ensures.writes c.write_edit.ensures.belong
