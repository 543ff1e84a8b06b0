use Rattle.std.proofs.Common.{◌∙◌, ◌≤◌, ◌||◌, List, Some, length, sym, ap, subst, arith, rules}
use Rattle.release_list.specs.cell_records.declared.record.Record.{Record}
use Rattle.release_list.specs.metadata_cells.declared.head.CellHead.{CellHead}
use Rattle.release_list.specs.metadata_cells.Chain.{LeavesOthers, PlacedCell, StandsAt, is_at}
use Rattle.release_list.specs.file_chains.FileChanges.{AreOnTables, LeavesOtherCells}
use Rattle.release_list.proofs.OfFileChains.Added.{at_on, not_zeros, off_table, stands_taken, table_kept, taken_elsewhere}
use Rattle.release_list.proofs.OfFileChains.ChainChanges.{at_apart}
use Rattle.release_list.proofs.OfFileChains.FewPages.{linked_changes}
use Rattle.release_list.proofs.OfFileChains.Still.{allocated_linked}
use Rattle.release_list.specs.Standing.{IsQuotas}
use Rattle.quota_book.specs.QuotaCells.{touched}
use Rattle.release_steps.specs.QuotaChain.{ReadCell, SetsLimits, quota_head, records_for, said_in, there_of}
use Rattle.release_steps.proofs.AddedCell.{behind_others, behind_set}
use Rattle.release_steps.proofs.LastCell.{ended}
use Rattle.release_steps.proofs.PickedCell.{picked_few, place_on}
use Rattle.release_steps.proofs.quota_adding.add_behind.Goals as goal

pub write_said-requires-clause-few : goal.write_said-requires-clause-few
write_said-requires-clause-few g c =
    let old = g.M.MetaPages.pages c.args.pages.now in
    let last = there_of c.args.last.now in
    let chain = c.requires.quotas.0 in
    let e = ended old c.args.first.now chain last c.requires.quotas.1 (c.requires.last chain c.requires.quotas.1) in
    omega (arith, picked_few old last.at e.c.cell last.said e.stands e.quota (ap (λ (r : ReadCell). r.said) e.read), ap length c.deref.ensures.value)

pub link_behind-requires-clause-in_use : goal.link_behind-requires-clause-in_use
link_behind-requires-clause-in_use g c =
    let old = g.M.MetaPages.pages c.args.pages.now in
    let between = g.M.MetaPages.pages c.take_cell.new.pages in
    let at = c.in_ok-at.at in
    let low : 1 ≤ at.vol = search rules in
    let last = there_of c.args.last.now in
    let chain = c.requires.quotas.0 in
    let e = ended old c.args.first.now chain last c.requires.quotas.1 (c.requires.last chain c.requires.quotas.1) in
    let on = place_on c.args.cells.now chain last.at (c.requires.tables chain c.requires.quotas.1) e.inside in
    (e.c.cell, stands_taken c.args.prefer at c.args.space.now c.take_cell.new.space c.args.cells.now c.take_cell.new.cells old between low c.requires.allocated c.in_ok-at.ensures.ok last.at e.c.cell on e.stands)

pub link_behind-requires-clause-apart : goal.link_behind-requires-clause-apart
link_behind-requires-clause-apart g c =
    let old = g.M.MetaPages.pages c.args.pages.now in
    let between = g.M.MetaPages.pages c.take_cell.new.pages in
    let at = c.in_ok-at.at in
    let low : 1 ≤ at.vol = search rules in
    let last = there_of c.args.last.now in
    let chain = c.requires.quotas.0 in
    let e = ended old c.args.first.now chain last c.requires.quotas.1 (c.requires.last chain c.requires.quotas.1) in
    let on = place_on c.args.cells.now chain last.at (c.requires.tables chain c.requires.quotas.1) e.inside in
    at_apart at last.at (not_zeros between at last.at e.c.cell c.in_ok-at.ensures.zeros (stands_taken c.args.prefer at c.args.space.now c.take_cell.new.space c.args.cells.now c.take_cell.new.cells old between low c.requires.allocated c.in_ok-at.ensures.ok last.at e.c.cell on e.stands))

pub returns-clause-ok : goal.returns-clause-ok
returns-clause-ok g c = λ chain is.
    let old = g.M.MetaPages.pages c.args.pages.now in
    let between = g.M.MetaPages.pages c.take_cell.new.pages in
    let at = c.in_ok-at.at in
    let low : 1 ≤ at.vol = search rules in
    let new = g.M.MetaPages.pages c.link_behind.new.pages in
    let last = there_of c.args.last.now in
    let e = ended old c.args.first.now chain last is (c.requires.last chain is) in
    let behind = subst (λ (h : CellHead). StandsAt new at (record { head = h; records = c.in_ok-records.records })) c.new_head.ensures c.link_behind.ensures.behind in
    let stands = subst (λ (rs : List Record). StandsAt new at (record { head = quota_head c.args.fileset; records = rs })) c.in_ok-records.ensures.value behind in
    let front = subst (λ (rs : List Record). StandsAt new last.at (record { head = record last.head { next = Some at }; records = rs })) (c.in_ok-front.ensures.value ∙ ap records_for c.deref.ensures.value) c.link_behind.ensures.front in
    let there = subst (λ (r : ReadCell). StandsAt new r.at (record { head = record r.head { next = Some at }; records = records_for r.said })) (sym e.read) front in
    let others = subst (λ (r : ReadCell). LeavesOthers (λ q. is_at at q || is_at r.at q) between new) (sym e.read) c.link_behind.ensures.others in
    subst (λ (cs : List PlacedCell). SetsLimits c.args.fileset c.args.who c.args.limits c.args.first.now cs c.args.cells.now c.take_cell.new.cells old new) (sym e.is)
    (behind_set c.args.prefer at c.args.space.now c.take_cell.new.space c.args.cells.now c.take_cell.new.cells old between low c.requires.allocated c.in_ok-at.ensures.ok c.in_ok-at.ensures.zeros c.args.fileset c.args.who c.args.limits c.requires.named new stands
    c.args.first.now e.front e.c (subst (IsQuotas old c.args.first.now) e.is is) (subst (AreOnTables c.args.cells.now) e.is (c.requires.tables chain is)) there others
    (ap (λ (cs : List PlacedCell). touched (said_in cs) c.args.who) (sym e.is) ∙ c.requires.untouched chain is))

pub returns-clause-others : goal.returns-clause-others
returns-clause-others g c = λ chain is.
    let old = g.M.MetaPages.pages c.args.pages.now in
    let between = g.M.MetaPages.pages c.take_cell.new.pages in
    let at = c.in_ok-at.at in
    let low : 1 ≤ at.vol = search rules in
    let new = g.M.MetaPages.pages c.link_behind.new.pages in
    let last = there_of c.args.last.now in
    let e = ended old c.args.first.now chain last is (c.requires.last chain is) in
    let behind = subst (λ (h : CellHead). StandsAt new at (record { head = h; records = c.in_ok-records.records })) c.new_head.ensures c.link_behind.ensures.behind in
    let stands = subst (λ (rs : List Record). StandsAt new at (record { head = quota_head c.args.fileset; records = rs })) c.in_ok-records.ensures.value behind in
    let front = subst (λ (rs : List Record). StandsAt new last.at (record { head = record last.head { next = Some at }; records = rs })) (c.in_ok-front.ensures.value ∙ ap records_for c.deref.ensures.value) c.link_behind.ensures.front in
    let there = subst (λ (r : ReadCell). StandsAt new r.at (record { head = record r.head { next = Some at }; records = records_for r.said })) (sym e.read) front in
    let others = subst (λ (r : ReadCell). LeavesOthers (λ q. is_at at q || is_at r.at q) between new) (sym e.read) c.link_behind.ensures.others in
    subst (λ (cs : List PlacedCell). LeavesOtherCells c.args.cells.now cs old new) (sym e.is)
    (behind_others c.args.prefer at c.args.space.now c.take_cell.new.space c.args.cells.now c.take_cell.new.cells old between low c.requires.allocated c.in_ok-at.ensures.ok c.in_ok-at.ensures.zeros c.args.fileset c.args.who c.args.limits c.requires.named new stands
    c.args.first.now e.front e.c (subst (IsQuotas old c.args.first.now) e.is is) (subst (AreOnTables c.args.cells.now) e.is (c.requires.tables chain is)) there others)

pub returns-clause-elsewhere : goal.returns-clause-elsewhere
returns-clause-elsewhere g c = λ h out.
    let old = g.M.MetaPages.pages c.args.pages.now in
    let between = g.M.MetaPages.pages c.take_cell.new.pages in
    let at = c.in_ok-at.at in
    let low : 1 ≤ at.vol = search rules in
    let last = there_of c.args.last.now in
    let chain = c.requires.quotas.0 in
    let e = ended old c.args.first.now chain last c.requires.quotas.1 (c.requires.last chain c.requires.quotas.1) in
    let on = place_on c.args.cells.now chain last.at (c.requires.tables chain c.requires.quotas.1) e.inside in
    c.link_behind.ensures.elsewhere h (off_table c.take_cell.new.cells at h (at_on c.args.prefer at c.args.space.now c.take_cell.new.space c.args.cells.now c.take_cell.new.cells old between low c.requires.allocated c.in_ok-at.ensures.ok) out)
    (off_table c.take_cell.new.cells last.at h (table_kept c.args.prefer at c.args.space.now c.take_cell.new.space c.args.cells.now c.take_cell.new.cells old between low c.requires.allocated c.in_ok-at.ensures.ok last.at.vol last.at.page on) out)
    ∙ taken_elsewhere c.args.prefer at c.args.space.now c.take_cell.new.space c.args.cells.now c.take_cell.new.cells old between low c.requires.allocated c.in_ok-at.ensures.ok h out

pub returns-clause-few : goal.returns-clause-few
returns-clause-few g c =
    linked_changes c.args.prefer c.in_ok-at.at c.args.space.now c.take_cell.new.space c.args.cells.now c.take_cell.new.cells (g.M.MetaPages.pages c.args.pages.now) (g.M.MetaPages.pages c.take_cell.new.pages) (g.M.MetaPages.pages c.link_behind.new.pages)
    c.in_ok-at.ensures.ok c.args.last.now.at c.link_behind.ensures.elsewhere

pub returns-clause-allocated : goal.returns-clause-allocated
returns-clause-allocated g c =
    let old = g.M.MetaPages.pages c.args.pages.now in
    let between = g.M.MetaPages.pages c.take_cell.new.pages in
    let at = c.in_ok-at.at in
    let low : 1 ≤ at.vol = search rules in
    let last = there_of c.args.last.now in
    let chain = c.requires.quotas.0 in
    let e = ended old c.args.first.now chain last c.requires.quotas.1 (c.requires.last chain c.requires.quotas.1) in
    let on = place_on c.args.cells.now chain last.at (c.requires.tables chain c.requires.quotas.1) e.inside in
    allocated_linked c.take_cell.new.space c.take_cell.new.cells between (g.M.MetaPages.pages c.link_behind.new.pages) c.in_ok-at.ensures.allocated c.link_behind.ensures.well_formed c.link_behind.ensures.headers
    at last.at c.in_ok-at.ensures.ok.between e.c.cell c.in_ok-at.ensures.ok.taken (stands_taken c.args.prefer at c.args.space.now c.take_cell.new.space c.args.cells.now c.take_cell.new.cells old between low c.requires.allocated c.in_ok-at.ensures.ok last.at e.c.cell on e.stands) c.link_behind.ensures.others
