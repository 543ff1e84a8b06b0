use Rattle.std.proofs.Common.{◌≡◌, true, IfSome, inr, rules, subst}
use Rattle.free_cells.specs.Cells.{JoinsEmptyPage, TakesCell, can_take}
use Rattle.file_chains.specs.Allocated.{AddsTablePage}
use Rattle.file_chains.proofs.Allocated.{is_there, some_there}
use Rattle.file_chains.proofs.taking.take_cell.Goals as goal

pub unwrap-requires : goal.unwrap-requires
unwrap-requires g c =
    some_there c.args.cells.now c.add_table_page.new.cells c.in_ok-home.home
    (subst (λ s. JoinsEmptyPage c.in_ok-home.home s c.add_table_page.new.cells) c.in_default.ensures.unchanged c.in_ok-home.ensures.ok.joins)
    (c.requires.opened c.in_ok-home.home.vol c.in_ok-home.home.page (search rules) c.in_ok-home.ensures.ok.free) c.new_cell-2.result c.new_cell-2.ensures.none

pub returns-clause-ok : goal.returns-clause-ok
returns-clause-ok g c =
    let adds = subst (λ s. AddsTablePage c.in_ok-home.home c.args.space.now c.add_table_page.new.space s c.add_table_page.new.cells (g.M.MetaPages.pages c.args.pages.now) (g.M.MetaPages.pages c.add_table_page.new.pages))
    c.in_default.ensures.unchanged c.in_ok-home.ensures.ok in
    let some = subst (λ o. IfSome o (λ at. can_take c.add_table_page.new.cells at ≡ true)) c.unwrap.ensures c.new_cell-2.ensures.some in
    record {
      between = c.add_table_page.new.cells;
      before = inr (record {
        none = c.in_default.ensures.none;
        home = c.in_ok-home.home;
        adds = adds;
        on = is_there c.args.cells.now c.add_table_page.new.cells c.in_ok-home.home adds.joins
            (c.requires.opened c.in_ok-home.home.vol c.in_ok-home.home.page (search rules) adds.free) c.in_default.ensures.none c.unwrap.result some;
        preferred = c.in_ok-home.ensures.preferred;
      });
      free = some;
      taken = subst (λ o. IfSome o (λ at. TakesCell at c.add_table_page.new.cells c.new_cell-2.new.self)) c.unwrap.ensures c.new_cell-2.ensures.taken;
    }
