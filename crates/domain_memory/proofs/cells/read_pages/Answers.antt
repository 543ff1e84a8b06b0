use Rattle.std.proofs.Common.{refl}
use Rattle.domain_memory.proofs.Reading.{leads_there, next_page, read_one}
use Rattle.domain_memory.proofs.cells.read_pages.Goals as goal

pub loop-place-init : goal.loop-place-init
loop-place-init g c = record {
  read = c.requires.read;
  here = c.requires.none;
  others = λ other apart. refl;
  marks = λ other. refl;
}

pub read_page-requires-clause-page : goal.read_page-requires-clause-page
read_page-requires-clause-page g c =
    next_page (g.M.MetaPages.pages c.args.pages.now) c.args.vol c.args.table.now c.requires.table c.loop-place.place c.loop-place-test.true c.args.cells.now c.loop-place.cells c.loop-place.invariant

pub read_page-requires-clause-linked : goal.read_page-requires-clause-linked
read_page-requires-clause-linked g c =
    leads_there (g.M.MetaPages.pages c.args.pages.now) c.args.vol c.args.table.now c.requires.table c.loop-place.place c.loop-place-test.true c.args.cells.now c.loop-place.cells c.loop-place.invariant

pub loop-place-preserved : goal.loop-place-preserved
loop-place-preserved g c =
    read_one (g.M.MetaPages.pages c.args.pages.now) c.args.vol c.args.table.now c.requires.table c.loop-place.place c.loop-place-test.true c.args.cells.now c.loop-place.cells c.loop-place.invariant
    c.read_page.new.self c.in_ok-read_page.ensures.ok c.read_page.ensures.belong
