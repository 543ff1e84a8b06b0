use Rattle.std.proofs.Common.{sym, subst}
use Rattle.fileset_files.specs.free_space.Spaces.{Spaces}
use Rattle.fileset_files.specs.file_chains.Allocated.{AreAllocated}
use Rattle.file_release.proofs.Given.{allocated_given}
use Rattle.file_release.proofs.Passed.{lacks, map_err, map_good, map_held, map_once, map_off, may_hand_over, small}
use Rattle.file_release.proofs.releasing.pass_on.Goals as goal

pub hand_over-requires-clause-may : goal.hand_over-requires-clause-may
hand_over-requires-clause-may g c =
    let p = c.requires.planned in
    (p.3, may_hand_over p.0 p.1 c.args.reader.now c.args.plan.now c.args.space.now c.args.cells.now (g.M.MetaPages.pages c.args.pages.now) p.2 p.3 p.4 c.in-Some.home c.in-Some.is)

pub hand_over-requires-clause-small : goal.hand_over-requires-clause-small
hand_over-requires-clause-small g c =
    let p = c.requires.planned in
    small p.0 p.1 c.args.reader.now c.args.plan.now c.args.space.now c.args.cells.now (g.M.MetaPages.pages c.args.pages.now) p.2 p.3 p.4 c.in-Some.home c.in-Some.is

pub give_back_from-requires-clause-volumes : goal.give_back_from-requires-clause-volumes
give_back_from-requires-clause-volumes g c = λ page home there.
    let p = c.requires.planned in
    (map_good p.0 p.1 c.args.reader.now c.args.plan.now c.args.space.now c.args.cells.now (g.M.MetaPages.pages c.args.pages.now) p.2 p.3 p.4 page home there).low

pub give_back_from-requires-clause-held : goal.give_back_from-requires-clause-held
give_back_from-requires-clause-held g c = λ page home there.
    let p = c.requires.planned in
    map_held p.0 p.1 c.args.reader.now c.args.plan.now c.args.space.now c.args.cells.now (g.M.MetaPages.pages c.args.pages.now) p.2 p.3 p.4 page home there

pub give_back_from-requires-clause-once : goal.give_back_from-requires-clause-once
give_back_from-requires-clause-once g c = λ a b home x y.
    let p = c.requires.planned in
    map_once p.0 p.1 c.args.reader.now c.args.plan.now c.args.space.now c.args.cells.now (g.M.MetaPages.pages c.args.pages.now) p.2 p.3 p.4 a b home x y

pub returns-in-Some-clause-full : goal.returns-in-Some-clause-full
returns-in-Some-clause-full g c = λ from start chain own is.
    map_err c.hand_over.result
    (λ fault none no_page. lacks from start c.args.reader.now c.args.plan.now c.args.space.now c.args.cells.now (g.M.MetaPages.pages c.args.pages.now) chain own is c.in-Some.home c.in-Some.is (none no_page))
    (c.hand_over.ensures.full own (may_hand_over from start c.args.reader.now c.args.plan.now c.args.space.now c.args.cells.now (g.M.MetaPages.pages c.args.pages.now) chain own is c.in-Some.home c.in-Some.is))

pub returns-in-Some-clause-others : goal.returns-in-Some-clause-others
returns-in-Some-clause-others g c = λ from start chain own is.
    c.hand_over.ensures.others own (may_hand_over from start c.args.reader.now c.args.plan.now c.args.space.now c.args.cells.now (g.M.MetaPages.pages c.args.pages.now) chain own is c.in-Some.home c.in-Some.is)

pub returns-in-None-clause-allocated : goal.returns-in-None-clause-allocated
returns-in-None-clause-allocated g c =
    let p = c.requires.planned in
    let pages = g.M.MetaPages.pages c.args.pages.now in
    let gives = c.give_back_from.ensures in
    subst (λ (s : Spaces). AreAllocated s c.args.cells.now pages) (sym gives.is)
    (allocated_given c.args.kind c.args.group gives.homes c.args.space.now c.args.cells.now pages
    (λ x inside. let w = (gives.each x).0 inside in (map_good p.0 p.1 c.args.reader.now c.args.plan.now c.args.space.now c.args.cells.now pages p.2 p.3 p.4 w.page x w.there).low)
    (λ x inside. let w = (gives.each x).0 inside in map_off p.0 p.1 c.args.reader.now c.args.plan.now c.args.space.now c.args.cells.now pages p.2 p.3 p.4 w.page x w.there)
    c.requires.allocated)
