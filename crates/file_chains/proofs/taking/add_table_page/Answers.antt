use Rattle.std.proofs.Common.{◌∙◌, ap, rules, sym, subst}
use Rattle.free_cells.specs.free_space.VolumeSpace.{without_page}
use Rattle.free_cells.specs.free_space.Spaces.{IsHeld, change_volume}
use Rattle.free_cells.proofs.OfFreeSpace.Places.{free_can, held_taken}
use Rattle.file_chains.specs.Allocated.{AreAllocated}
use Rattle.file_chains.proofs.Allocated.{allocated_grown, not_in_table, same_allocated}
use Rattle.file_chains.proofs.Spaces.{given_back}
use Rattle.file_chains.proofs.taking.add_table_page.Goals as goal

pub add_on-requires-clause-fresh : goal.add_on-requires-clause-fresh
add_on-requires-clause-fresh g c =
    not_in_table c.args.space.now c.args.cells.now (g.M.MetaPages.pages c.args.pages.now) c.in-Some.home.vol c.in-Some.home.page (search rules) c.requires.allocated c.in-Some.ensures.some

pub add_on-requires-clause-held : goal.add_on-requires-clause-held
add_on-requires-clause-held g c =
    subst (λ s. IsHeld s c.in-Some.home.vol c.in-Some.home.page) (sym c.in-Some.ensures.taken)
    (held_taken c.args.space.now c.in-Some.home.vol c.in-Some.home.page (free_can c.args.space.now c.in-Some.home.vol c.in-Some.home.page c.in-Some.ensures.some))

pub returns-in-Ok-clause-allocated : goal.returns-in-Ok-clause-allocated
returns-in-Ok-clause-allocated g c =
    subst (λ s. AreAllocated s c.add_on.new.cells (g.M.MetaPages.pages c.add_on.new.pages)) (sym (c.in-Ok.ensures.space ∙ c.in-Some.ensures.taken))
    (allocated_grown c.args.space.now c.args.cells.now c.add_on.new.cells (g.M.MetaPages.pages c.args.pages.now) (g.M.MetaPages.pages c.add_on.new.pages) c.in-Some.home (search rules)
    c.requires.allocated c.in-Some.ensures.some c.in-Ok.ensures.joins c.in-Ok.ensures.page c.in-Ok.ensures.elsewhere c.in-Ok.ensures.belong)

pub returns-in-Err-clause-err : goal.returns-in-Err-clause-err
returns-in-Err-clause-err g c =
    c.in-Err.ensures.unreserved ∙ ap (λ s. change_volume (without_page c.in-Some.home.page) s c.in-Some.home.vol) c.in-Some.ensures.taken
    ∙ given_back c.args.space.now c.in-Some.home.vol c.in-Some.home.page c.in-Some.ensures.some

pub returns-in-Err-clause-allocated : goal.returns-in-Err-clause-allocated
returns-in-Err-clause-allocated g c =
    same_allocated (c.in-Err.ensures.unreserved ∙ ap (λ s. change_volume (without_page c.in-Some.home.page) s c.in-Some.home.vol) c.in-Some.ensures.taken
    ∙ given_back c.args.space.now c.in-Some.home.vol c.in-Some.home.page c.in-Some.ensures.some) c.in-Err.ensures.cells c.in-Err.ensures.pages c.requires.allocated
