use Rattle.std.proofs.Common.{ℕ, List, Contains, subst, sym}
use Rattle.file_release.specs.metadata_cells.CellPage.{home_of}
use Rattle.file_release.proofs.OfFileChains.FewPages.{one_changes}
use Rattle.file_release.proofs.OfFileChains.Added.{off_table}
use Rattle.file_release.proofs.Freed.{allocated_freed}
use Rattle.release_list.proofs.Stepping.{clone_record, entry_on, entry_used, file_went, reading_went}
use Rattle.release_list.proofs.entries.end_whole.Goals as goal

pub end_reading-requires : goal.end_reading-requires
end_reading-requires g c =
    let w = c.requires.well in
    clone_record w.0 w.1 w.2 c.args.entry.now w.3 c.args.cells.now (g.M.MetaPages.pages c.args.pages.now) c.in-Some.clone c.in-Some.is w.4.has

pub free_cell-requires-clause-belong : goal.free_cell-requires-clause-belong
free_cell-requires-clause-belong g c = let w = c.requires.well in w.4.has.well.together.allocated.belong

pub free_cell-requires-clause-used : goal.free_cell-requires-clause-used
free_cell-requires-clause-used g c = let w = c.requires.well in entry_used w.0 w.1 w.2 c.args.entry.now w.3 c.args.cells.now (g.M.MetaPages.pages c.args.pages.now) w.4

pub free_cell-requires-clause-table : goal.free_cell-requires-clause-table
free_cell-requires-clause-table g c = let w = c.requires.well in entry_on w.0 w.1 w.2 c.args.entry.now w.3 c.args.cells.now (g.M.MetaPages.pages c.args.pages.now) w.4

pub returns-in_ok-end_reading-in-Some-clause-ok : goal.returns-in_ok-end_reading-in-Some-clause-ok
returns-in_ok-end_reading-in-Some-clause-ok g c = λ group version list front files space ending.
    let e = c.in_ok-end_reading-in-Some.ensures in
    reading_went group version list front files c.args.entry.now space c.args.cells.now (g.M.MetaPages.pages c.args.pages.now) (g.M.MetaPages.pages c.end_reading.new.pages) c.in-Some.clone c.in-Some.is ending e.ok e.others e.well_formed e.headers e.elsewhere

pub returns-in-None-clause-ok : goal.returns-in-None-clause-ok
returns-in-None-clause-ok g c = λ group version list front files space ending.
    let e = c.free_cell.ensures in
    let old = g.M.MetaPages.pages c.args.pages.now in
    let new = g.M.MetaPages.pages c.free_cell.new.pages in
    let at = c.args.entry.now.at in
    file_went group version list front files c.args.entry.now space c.args.cells.now c.free_cell.new.self old new c.in-None.is ending e.others e.value
    (allocated_freed at space c.args.cells.now c.free_cell.new.self old new ending.has.well.together.allocated e.value e.belong e.headers)
    (λ home off. e.elsewhere home (off_table c.args.cells.now at home (entry_on list front files c.args.entry.now space c.args.cells.now old ending) (λ on. off (subst (λ (t : List ℕ). Contains t home.page) (sym (e.value.tables home.vol)) on))))
    (one_changes old new (home_of at) e.elsewhere)
