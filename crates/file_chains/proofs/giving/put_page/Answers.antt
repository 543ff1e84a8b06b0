use Rattle.std.proofs.Common.{Contains, List, OnOk, arith, inl, subst, sym}
use Rattle.free_cells.specs.domain_base.declared.place.CellAt.{CellAt}
use Rattle.free_cells.specs.page_store.Pages.{Pages}
use Rattle.file_chains.specs.FileChanges.{LeavesOtherCells}
use Rattle.file_chains.specs.Files.{IsFile}
use Rattle.file_chains.proofs.Added.{off_tables}
use Rattle.file_chains.proofs.ChainChanges.{inside_places}
use Rattle.file_chains.specs.MapChanges.{ChangesAtMost, LeavesOffTables}
use Rattle.file_chains.proofs.FewPages.{at_most}
use Rattle.file_chains.proofs.Still.{allocated_apart, if_err, on_by_places, others_stay}
use Rattle.file_chains.proofs.giving.put_page.Goals as goal

pub returns-then-branch-clause-ok : goal.returns-then-branch-clause-ok
returns-then-branch-clause-ok g c = λ chain is.
    let put = c.in_ok-put_in_records.ensures.put chain is c.if-branch.true in
    record {
      changes = put.changes;
      on_tables = on_by_places c.args.cells.now put.changes.after chain put.same_cells (c.requires.tables chain is);
      joined = λ d inside apart. absurd (apart (subst (λ (ps : List CellAt). Contains ps d.at) put.same_cells (inside_places put.changes.after d inside)));
      kept = λ q inside. subst (λ (ps : List CellAt). Contains ps q) (sym put.same_cells) inside;
      same_kinds = put.same_kinds;
      handed = λ q now. inl now;
    }

pub returns-then-branch-clause-others : goal.returns-then-branch-clause-others
returns-then-branch-clause-others g c = λ chain is.
    others_stay c.args.cells.now chain (g.M.MetaPages.pages c.args.pages.now) (g.M.MetaPages.pages c.put_in_records.new.pages) (c.in_ok-put_in_records.ensures.others chain is)

pub returns-then-branch-clause-elsewhere : goal.returns-then-branch-clause-elsewhere
returns-then-branch-clause-elsewhere g c = λ h out.
    c.in_ok-put_in_records.ensures.elsewhere c.requires.file.0 c.requires.file.1 h (off_tables c.args.cells.now c.requires.file.0 h (c.requires.tables c.requires.file.0 c.requires.file.1) out)

pub returns-then-branch-clause-allocated : goal.returns-then-branch-clause-allocated
returns-then-branch-clause-allocated g c =
    allocated_apart c.args.space.now c.args.cells.now (g.M.MetaPages.pages c.args.pages.now) (g.M.MetaPages.pages c.put_in_records.new.pages) c.requires.allocated c.in_ok-put_in_records.ensures.well_formed c.in_ok-put_in_records.ensures.headers
    c.args.start c.requires.file.0 c.requires.file.1 (c.in_ok-put_in_records.ensures.others c.requires.file.0 c.requires.file.1)

pub returns-clause-others : goal.returns-clause-others
returns-clause-others g c = λ chain is.
    let kept = c.in_ok-put_in_records.ensures.kept c.if-branch.false in
    subst (λ (pages : Pages). LeavesOtherCells c.args.cells.now chain pages (g.M.MetaPages.pages c.put_in_new_cell.new.pages)) kept
    (c.put_in_new_cell.ensures.others chain (subst (λ (pages : Pages). IsFile pages c.args.start chain) (sym kept) is))

pub returns-clause-full : goal.returns-clause-full
returns-clause-full g c = λ chain is. if_err c.put_in_new_cell.result (λ fault _. c.in_ok-put_in_records.ensures.full chain is c.if-branch.false)

pub returns-then-branch-clause-few : goal.returns-then-branch-clause-few
returns-then-branch-clause-few g c = at_most 1 3 (g.M.MetaPages.pages c.args.pages.now) (g.M.MetaPages.pages c.put_in_records.new.pages) (omega arith) c.in_ok-put_in_records.ensures.few

pub returns-clause-few : goal.returns-clause-few
returns-clause-few g c =
    let kept = c.in_ok-put_in_records.ensures.kept c.if-branch.false in
    subst (λ (pages : Pages). OnOk c.put_in_new_cell.result (ChangesAtMost 3 pages (g.M.MetaPages.pages c.put_in_new_cell.new.pages))) kept c.put_in_new_cell.ensures.few

pub returns-clause-elsewhere : goal.returns-clause-elsewhere
returns-clause-elsewhere g c =
    let kept = c.in_ok-put_in_records.ensures.kept c.if-branch.false in
    subst (λ (pages : Pages). LeavesOffTables c.put_in_new_cell.new.cells pages (g.M.MetaPages.pages c.put_in_new_cell.new.pages)) kept c.put_in_new_cell.ensures.elsewhere
