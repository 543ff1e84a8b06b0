use Rattle.std.proofs.Common.{Contains, List, inl, inr, subst, sym}
use Rattle.free_cells.specs.domain_base.declared.place.CellAt.{CellAt}
use Rattle.free_cells.specs.page_store.Pages.{Pages}
use Rattle.extent_records.proofs.OfExtentMaps.EditLemmas.{on_ok}
use Rattle.file_chains.specs.FileChanges.{LeavesOtherCells}
use Rattle.file_chains.specs.Files.{IsFile}
use Rattle.file_chains.specs.MapChanges.{TakesOne}
use Rattle.file_chains.proofs.Added.{off_tables}
use Rattle.file_chains.proofs.ChainChanges.{inside_places}
use Rattle.file_chains.proofs.Still.{allocated_apart, if_err, on_by_places, others_stay}
use Rattle.file_chains.proofs.moving.switch_page.Goals as goal

pub returns-then-branch-clause-ok : goal.returns-then-branch-clause-ok
returns-then-branch-clause-ok g c = λ chain is.
    let put = c.in_ok-switch_in_records.ensures.switched chain is c.if-branch.true in
    record {
      changes = put.changes;
      on_tables = on_by_places c.args.cells.now put.changes.after chain put.same_cells (c.requires.tables chain is);
      joined = λ d inside apart. absurd (apart (subst (λ (ps : List CellAt). Contains ps d.at) put.same_cells (inside_places put.changes.after d inside)));
      kept = λ q inside. subst (λ (ps : List CellAt). Contains ps q) (sym put.same_cells) inside;
      same_kinds = put.same_kinds;
      handed = λ q now. inl now;
    }

pub returns-then-branch-clause-others : goal.returns-then-branch-clause-others
returns-then-branch-clause-others g c = λ chain is.
    others_stay c.args.cells.now chain (g.M.MetaPages.pages c.args.pages.now) (g.M.MetaPages.pages c.switch_in_records.new.pages) (c.in_ok-switch_in_records.ensures.others chain is)

pub returns-then-branch-clause-elsewhere : goal.returns-then-branch-clause-elsewhere
returns-then-branch-clause-elsewhere g c = λ h out.
    c.in_ok-switch_in_records.ensures.elsewhere c.requires.file.0 c.requires.file.1 h (off_tables c.args.cells.now c.requires.file.0 h (c.requires.tables c.requires.file.0 c.requires.file.1) out)

pub returns-then-branch-clause-allocated : goal.returns-then-branch-clause-allocated
returns-then-branch-clause-allocated g c =
    allocated_apart c.args.space.now c.args.cells.now (g.M.MetaPages.pages c.args.pages.now) (g.M.MetaPages.pages c.switch_in_records.new.pages) c.requires.allocated c.in_ok-switch_in_records.ensures.well_formed c.in_ok-switch_in_records.ensures.headers
    c.args.start c.requires.file.0 c.requires.file.1 (c.in_ok-switch_in_records.ensures.others c.requires.file.0 c.requires.file.1)

pub returns-clause-others : goal.returns-clause-others
returns-clause-others g c = λ chain is.
    let kept = c.in_ok-switch_in_records.ensures.kept c.if-branch.false in
    subst (λ (pages : Pages). LeavesOtherCells c.args.cells.now chain pages (g.M.MetaPages.pages c.switch_in_new_cell.new.pages)) kept
    (c.switch_in_new_cell.ensures.others chain (subst (λ (pages : Pages). IsFile pages c.args.start chain) (sym kept) is))

pub returns-clause-full : goal.returns-clause-full
returns-clause-full g c = λ chain is. if_err c.switch_in_new_cell.result (λ fault _. c.in_ok-switch_in_records.ensures.full chain is c.if-branch.false)

pub returns-clause-taken : goal.returns-clause-taken
returns-clause-taken g c = λ chain is.
    let kept = c.in_ok-switch_in_records.ensures.kept c.if-branch.false in
    let full = c.in_ok-switch_in_records.ensures.full chain is c.if-branch.false in
    on_ok c.switch_in_new_cell.result
    (λ one. inr (full, subst (λ (pages : Pages). TakesOne c.args.prefer c.args.space.now c.switch_in_new_cell.new.space c.args.cells.now c.switch_in_new_cell.new.cells pages) kept one))
    c.switch_in_new_cell.ensures.taken
