use Rattle.std.proofs.Common.{ap, subst}
use Rattle.slot_files.specs.page_ways.Frame.{frame_in}
use Rattle.slot_files.proofs.OfFilesetShapes.Answered.{if_ok}
use Rattle.slot_files.specs.cell_faults.Read.{IsTableRead}
use Rattle.domain_faults.specs.Rows.{rows_there}
use Rattle.domain_faults.proofs.ToldFaults.{all_told, told_table, told_unnamed}
use Rattle.domain_faults.proofs.all.faults_in.Goals as goal

pub rows_behind-requires-clause-whole : goal.rows_behind-requires-clause-whole
rows_behind-requires-clause-whole g c = subst (IsTableRead (g.M.MetaPages.pages c.args.pages.now) (frame_in c.args.frame.now)) c.in-There.is c.in_ok-read_table.ensures

pub returns-in-Unnamed : goal.returns-in-Unnamed
returns-in-Unnamed g c =
    let pages = g.M.MetaPages.pages c.args.pages.now in
    let frame = frame_in c.args.frame.now in
    all_told pages frame (rows_there c.new.result.items) (told_unnamed pages frame (subst (IsTableRead pages frame) c.in-Unnamed.is c.in_ok-read_table.ensures) (rows_there c.new.result.items) (ap rows_there c.new.ensures.items))

pub returns-in-Wrong : goal.returns-in-Wrong
returns-in-Wrong g c =
    let pages = g.M.MetaPages.pages c.args.pages.now in
    let frame = frame_in c.args.frame.now in
    if_ok c.table_row.result _ _ (λ rows one. all_told pages frame (rows_there rows.items) (told_table pages frame c.in-Wrong.home (subst (IsTableRead pages frame) c.in-Wrong.is c.in_ok-read_table.ensures) (rows_there rows.items) one)) c.table_row.ensures

pub returns-in-There : goal.returns-in-There
returns-in-There g c =
    let pages = g.M.MetaPages.pages c.args.pages.now in
    let frame = frame_in c.args.frame.now in
    if_ok c.rows_behind.result _ _ (λ rows are. all_told pages frame (rows_there rows.items) are) c.rows_behind.ensures
