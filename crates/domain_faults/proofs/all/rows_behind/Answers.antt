use Rattle.std.proofs.Common.{false, true, ◌≡◌, ◌∙◌, ap, sym}
use Rattle.slot_files.specs.page_ways.Frame.{frame_in}
use Rattle.slot_files.proofs.OfFilesetShapes.Answered.{if_ok}
use Rattle.domain_faults.specs.Rows.{rows_there}
use Rattle.domain_faults.proofs.ToldFaults.{named, no_tables_fault, told_files, told_tables}
use Rattle.domain_faults.proofs.all.rows_behind.Goals as goal

no_bool : {P : Type 0} → false ≡ true → P
no_bool is = absurd (cc)

pub files_rows-requires-clause-named : goal.files_rows-requires-clause-named
files_rows-requires-clause-named g c =
    (c.requires.version, named (g.M.MetaPages.pages c.args.pages.now) (frame_in c.args.frame.now) c.args.table.now c.requires.whole)

pub files_rows-requires-clause-no_fault : goal.files_rows-requires-clause-no_fault
files_rows-requires-clause-no_fault g c =
    no_tables_fault (g.M.MetaPages.pages c.args.pages.now) (frame_in c.args.frame.now) c.args.table.now c.requires.whole (rows_there c.in_ok-rows.rows.items) c.in_ok-rows.ensures (ap rows_there (sym c.deref.ensures.value) ∙ c.is_none.ensures.0 c.if-not-is_none.false)

pub returns-then-not-is_none : goal.returns-then-not-is_none
returns-then-not-is_none g c =
    told_tables (g.M.MetaPages.pages c.args.pages.now) (frame_in c.args.frame.now) c.args.table.now c.requires.whole (rows_there c.in_ok-rows.rows.items) c.in_ok-rows.ensures
    (λ none. no_bool (sym c.if-not-is_none.true ∙ c.is_none.ensures.1 (ap rows_there c.deref.ensures.value ∙ none)))

pub returns : goal.returns
returns g c =
    let pages = g.M.MetaPages.pages c.args.pages.now in
    let frame = frame_in c.args.frame.now in
    let none = no_tables_fault pages frame c.args.table.now c.requires.whole (rows_there c.in_ok-rows.rows.items) c.in_ok-rows.ensures (ap rows_there (sym c.deref.ensures.value) ∙ c.is_none.ensures.0 c.if-not-is_none.false) in
    if_ok c.files_rows.result _ _ (λ rows are. told_files pages frame c.args.table.now c.requires.whole none (rows_there rows.items) are) c.files_rows.ensures
