use Rattle.std.proofs.Common.{subst, sym}
use Rattle.file_chains.specs.extent_maps.declared.run.PagePlace.TheVariants.{At}
use Rattle.file_chains.specs.free_space.Spaces.{IsHeld, Spaces}
use Rattle.file_chains.proofs.OfFreeSpace.Places.{free_can, held_taken}
use Rattle.file_chains.specs.Allocated.{AreAllocated}
use Rattle.file_chains.specs.MapChanges.{TakesIfFull}
use Rattle.fileset_files.proofs.Given.{allocated_kept, not_given}
use Rattle.fileset_files.proofs.Grown.{allocated_taken}
use Rattle.fileset_files.proofs.giving.give_at.Goals as goal

pub put_or_give_back-requires-clause-allocated : goal.put_or_give_back-requires-clause-allocated
put_or_give_back-requires-clause-allocated g c =
    let pages = g.M.MetaPages.pages c.args.pages.now in
    subst (λ (s : Spaces). AreAllocated s c.args.cells.now pages) (sym c.in-Some.ensures.taken) (allocated_taken c.args.space.now c.args.cells.now pages c.in-Some.home c.requires.allocated)

pub put_or_give_back-requires-clause-held : goal.put_or_give_back-requires-clause-held
put_or_give_back-requires-clause-held g c =
    let home = c.in-Some.home in
    subst (λ (s : Spaces). IsHeld s home.vol home.page) (sym c.in-Some.ensures.taken) (held_taken c.args.space.now home.vol home.page (free_can c.args.space.now home.vol home.page c.in-Some.ensures.some))

pub returns-in-Ok-clause-taken : goal.returns-in-Ok-clause-taken
returns-in-Ok-clause-taken g c = λ chain is.
    record {
      free = c.in-Some.ensures.some;
      preferred = c.in-Some.ensures.preferred;
      taken = subst (λ (s : Spaces). TakesIfFull c.args.page (At c.in-Some.home) chain c.args.prefer s c.put_or_give_back.new.space c.args.cells.now c.put_or_give_back.new.cells (g.M.MetaPages.pages c.args.pages.now)) c.in-Some.ensures.taken
          (c.in-Ok.ensures.taken chain is);
    }

pub returns-in-Err-clause-err : goal.returns-in-Err-clause-err
returns-in-Err-clause-err g c = λ chain is.
    not_given c.in-Err.fault c.args.page chain c.in-Some.home c.args.space.now c.allocate.new.self c.put_or_give_back.new.space c.args.cells.now c.in-Some.ensures.some c.in-Some.ensures.taken c.in-Err.ensures.err (c.in-Err.ensures.full chain is)

pub returns-in-Err-clause-allocated : goal.returns-in-Err-clause-allocated
returns-in-Err-clause-allocated g c =
    let chain = c.requires.file.0 in
    allocated_kept c.in-Err.fault c.args.page chain c.args.space.now c.put_or_give_back.new.space c.args.cells.now c.put_or_give_back.new.cells (g.M.MetaPages.pages c.args.pages.now) (g.M.MetaPages.pages c.put_or_give_back.new.pages)
    (not_given c.in-Err.fault c.args.page chain c.in-Some.home c.args.space.now c.allocate.new.self c.put_or_give_back.new.space c.args.cells.now c.in-Some.ensures.some c.in-Some.ensures.taken c.in-Err.ensures.err (c.in-Err.ensures.full chain c.requires.file.1))
    c.in-Err.ensures.cells c.in-Err.ensures.pages c.requires.allocated
